-- `usual_keyword`: with the colon in front, the first token of the text is the keyword of this name. The name
-- begins with a letter, has at most 64 bytes and ends its token, which is what the lemma needs.
use Rattle.std.proofs.Common.{◌≡◌, ◌-◌, ◌≤◌, true, rules, length, take, drop, get_or, refl, sym, ap, ◌∙◌, arith}
use Rattle.edn_reader.specs.Bytes.{is_letter}
use Rattle.edn_reader.specs.Spells.{EndsToken}
use Rattle.edn_reader.specs.Token.{leaf}
use Rattle.edn_reader.specs.Datum.{atom, keyword}
use Rattle.edn_reader.specs.Reading.{got}
use Rattle.std.specs.Prelude.{List, ℕ}
use Rattle.edn_reader.proofs.ByteRuns.{usual_keyword}
use Rattle.edn_reader.proofs.piece.Piece.usual_keyword.Goals as goal

pub from_utf8_unchecked-name-requires : goal.from_utf8_unchecked-name-requires
from_utf8_unchecked-name-requires c =
    let h : is_letter (get_or c.args.text.now 0 0) ≡ true = search rules in
    let l : length (take (length c.args.text.now - 1) (drop 1 c.args.text.now)) - length c.after_name-rest.result.now
    ≤ 63 = omega arith in
    let w : EndsToken c.after_name-rest.result.now = c.ends_token.ensures c.if-not-ends_token.false in
    (usual_keyword c.args.text.now
    (take (length c.args.text.now - 1) (drop 1 c.args.text.now)) c.after_name-rest.result.now
    (omega arith) refl c.after_name-rest.ensures h l w).utf8

pub returns : goal.returns
returns c =
    let h : is_letter (get_or c.args.text.now 0 0) ≡ true = search rules in
    let l : length (take (length c.args.text.now - 1) (drop 1 c.args.text.now)) - length c.after_name-rest.result.now
    ≤ 63 = omega arith in
    let w : EndsToken c.after_name-rest.result.now = c.ends_token.ensures c.if-not-ends_token.false in
    let k = usual_keyword c.args.text.now
    (take (length c.args.text.now - 1) (drop 1 c.args.text.now)) c.after_name-rest.result.now
    (omega arith) refl c.after_name-rest.ensures h l w in
    k.read ∙ ap (λ (x : List ℕ). got (leaf (atom (keyword x))) c.after_name-rest.result.now)
    (sym c.from_utf8_unchecked-name.ensures)
