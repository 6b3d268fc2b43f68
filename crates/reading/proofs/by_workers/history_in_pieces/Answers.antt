-- `history_in_pieces`: a history that is given is the one that the text denotes. Each piece is read from its own
-- lines, which joined by line feeds are the text, so the pieces join to that history.
use Rattle.std.proofs.Common.{◌≡◌, ◌<◌, ◌∙◌, length, map, ap, sym, subst, arith}
use Rattle.std.proofs.lemmas.List.{length-map}
use Rattle.edn_reader.specs.Spells.{Spells}
use Rattle.edn_reader.specs.Sound.{IsShort}
use Rattle.history.specs.Pieces.{joined_by_feeds}
use Rattle.history.proofs.PiecesJoined.{read_each}
use Rattle.reading.specs.Texts.{DenotesHistory}
use Rattle.reading.proofs.ReadFaults.{where_some}
use Rattle.reading.proofs.by_workers.history_in_pieces.Goals as goal

pub join_pieces-requires : goal.join_pieces-requires
join_pieces-requires g c =
    let pieces = c.as_slice-pieces.result.now in
    let ok = c.in-Ok.reads.ok in
    let len = c.in-Ok.ensures.len in
    let long : length c.in-Ok.reads.items ≡ length pieces = omega (arith, ok, len) in
    let lines = map (λ p. p.now) pieces in (
      lines,
      read_each lines c.in-Ok.reads.items (long ∙ sym (length-map pieces (λ p. p.now)))
          (λ i d l. (c.in-Ok.ensures.each i d (subst (λ n. i < n) long l)).1.met),
    )

pub returns-clause-denotes : goal.returns-clause-denotes
returns-clause-denotes g c =
    let text = c.args.text.now in
    let pieces = c.as_slice-pieces.result.now in
    let ok = c.in-Ok.reads.ok in
    let len = c.in-Ok.ensures.len in
    let long : length c.in-Ok.reads.items ≡ length pieces = omega (arith, ok, len) in
    let lines = map (λ p. p.now) pieces in
    let are = read_each lines c.in-Ok.reads.items (long ∙ sym (length-map pieces (λ p. p.now)))
    (λ i d l. (c.in-Ok.ensures.each i d (subst (λ n. i < n) long l)).1.met) in
    let is : joined_by_feeds lines ≡ text = ap (λ ps. joined_by_feeds
    (map (λ p. p.now) ps)) c.as_slice-pieces.ensures.value ∙ c.in_ok-pieces.ensures in
    where_some c.join_pieces.result _ (DenotesHistory text)
    (λ h d. let k = d lines are in record {
      forms = k.0;
      spelled = subst
          (Spells k.0) is k.1;
      denoted = k.2;
    }) c.join_pieces.ensures

pub returns-clause-short : goal.returns-clause-short
returns-clause-short g c = where_some c.join_pieces.result _ (λ _. IsShort c.args.text.now)
    (λ h d. c.if-text-gt-MAX_LENGTH.false) c.join_pieces.ensures
