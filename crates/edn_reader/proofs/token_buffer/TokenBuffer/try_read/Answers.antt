-- `try_read` reads the tokens of one element. Each exit is a law of `Turns`, at the token that comes next.
use Rattle.std.proofs.Common.{◌<◌, length, ap, arith}
use Rattle.std.proofs.lemmas.Result.{err_from_is_err_and}
use Rattle.edn_reader.proofs.BufferTurns.{first_turn, none_first, sound_first, nothing_more, whole, whole_open}
use Rattle.edn_reader.proofs.BufferTurns.{next_turn, none_next, sound_next, none_at_end, after_piece_shorter}
use Rattle.edn_reader.proofs.Lexical.{skip_within}
use Rattle.edn_reader.proofs.token_buffer.TokenBuffer.try_read.Goals as goal

pub returns-then-is_empty-clause-reads : goal.returns-then-is_empty-clause-reads
returns-then-is_empty-clause-reads c = nothing_more c.requires.utf8 c.skip-here.ensures c.if-is_empty.ensures

pub returns-in_err-take-clause-none : goal.returns-in_err-take-clause-none
returns-in_err-take-clause-none c =
    let p = err_from_is_err_and c.from_residual.result c.from_residual.ensures.1 in
    let here : 0 < length c.skip-here.result.now = grind arith in
    rw (p.1, p.2) (λ m. none_first c.requires.utf8 c.skip-here.ensures here c.requires.fresh
    (c.in_err-take.ensures.taken.0 m))

pub tokens-init : goal.tokens-init
tokens-init c = (
  first_turn c.requires.utf8 c.skip-here.ensures c.requires.fresh c.clear.ensures c.in_ok-take.ensures.taken
      c.in_ok-take.ensures.kept,
  (let a = skip_within c.args.text.now in
      let b = after_piece_shorter c.skip-here.result.now _ _ _ c.in_ok-take.ensures.taken in
      omega (arith, a, b, ap length c.skip-here.ensures)),
)

pub returns-then-is_empty-2-clause-none : goal.returns-then-is_empty-2-clause-none
returns-then-is_empty-2-clause-none c = λ _. none_at_end c.tokens.invariant.0 c.skip-here-in-tokens.ensures
    c.if-is_empty-2.ensures c.tokens-test.ensures

pub returns-in_err-take-2-clause-none : goal.returns-in_err-take-2-clause-none
returns-in_err-take-2-clause-none c =
    let p = err_from_is_err_and c.from_residual-in_err-take-2.result c.from_residual-in_err-take-2.ensures.1 in
    let here : 0 < length c.skip-here-in-tokens.result.now = grind arith in
    rw (p.1, p.2) (λ m. none_next c.tokens.invariant.0 c.skip-here-in-tokens.ensures here
    (c.in_err-take-2.ensures.taken.0 m))

pub tokens-preserved : goal.tokens-preserved
tokens-preserved c = (
  next_turn c.tokens.invariant.0 c.skip-here-in-tokens.ensures c.tokens-test.ensures c.in_ok-take-2.ensures.taken
      c.in_ok-take-2.ensures.kept,
  (let a = skip_within c.tokens.self.remains.now in
      let b = after_piece_shorter c.skip-here-in-tokens.result.now _ _ _ c.in_ok-take-2.ensures.taken in
      omega (arith, a, b, ap length c.skip-here-in-tokens.ensures, c.tokens.invariant.1)),
)

pub returns-clause-reads : goal.returns-clause-reads
returns-clause-reads c = whole c.tokens.invariant.0 c.requires.utf8 c.tokens-test.ensures

pub returns-clause-fresh : goal.returns-clause-fresh
returns-clause-fresh c = whole_open c.tokens.invariant.0 c.tokens-test.ensures

pub returns-in_err-take-clause-memory : goal.returns-in_err-take-clause-memory
returns-in_err-take-clause-memory c =
    let p = err_from_is_err_and c.from_residual.result c.from_residual.ensures.1 in
    rw (p.1, p.2) (λ m. rw (c.in_err-take.ensures.place m)
    (sound_first c.requires.utf8 c.skip-here.ensures c.requires.fresh (c.in_err-take.ensures.taken.1 m)))

pub returns-in_err-take-2-clause-memory : goal.returns-in_err-take-2-clause-memory
returns-in_err-take-2-clause-memory c =
    let p = err_from_is_err_and c.from_residual-in_err-take-2.result c.from_residual-in_err-take-2.ensures.1 in
    rw (p.1, p.2) (λ m. rw (c.in_err-take-2.ensures.place m)
    (sound_next c.tokens.invariant.0 c.skip-here-in-tokens.ensures c.requires.utf8
    (c.in_err-take-2.ensures.taken.1 m)))
