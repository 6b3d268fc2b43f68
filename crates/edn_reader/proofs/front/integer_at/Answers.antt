use Rattle.std.proofs.Common.{Bor, List, ℕ, ◌≡◌, ◌∷◌, [], arith, rules}
use Rattle.std.specs.Prelude.{ℤ, Option, Some, None, IfSome}
use Rattle.edn_reader.specs.Datum.{integer, atom}
use Rattle.edn_reader.specs.Token.{leaf}
use Rattle.edn_reader.specs.Reading.{first, got}
use Rattle.edn_reader.specs.Sound.{BeginWith}
use Rattle.edn_reader.proofs.UsualFronts.{head_is, zero_here, first_here}
use Rattle.edn_reader.proofs.front.integer_at.Goals as goal

pub returns-then-ends_word : goal.returns-then-ends_word
returns-then-ends_word c =
    zero_here c.args.text.now _ (head_is c.args.text.now 48 (omega arith) (search rules))
    (c.ends_word.ensures c.if-ends_word.true)

number_here : (text : List ℕ) (r : Option (ℤ × Bor (List ℕ)))
    → IfSome r (λ x. first text ≡ got (leaf (atom (integer x.0))) x.1.now)
    → IfSome r (λ x. BeginWith (leaf (atom (integer x.0)) ∷ []) text x.1.now)
number_here text None h = tt
number_here text (Some x) h = first_here text x.1.now (leaf (atom (integer x.0))) h

pub returns-in_default : goal.returns-in_default
returns-in_default c = number_here c.args.text.now c.usual_number.result c.usual_number.ensures
