-- `value_at`: the tokens of the value that is read begin the text, and what follows it is given. Each first byte
-- has its own form: a word that ends its token, a pair, or else an integer.
use Rattle.std.proofs.Common.{Bor, List, ℕ, ◌≡◌, ◌++◌, codes, subst, sym, to_z, of_z, w64, arith}
use Rattle.std.proofs.lemmas.Int.{ints}
use Rattle.std.specs.Prelude.{Option, Some, None, IfSome}
use Rattle.edn_reader.specs.Spells.{EndsToken}
use Rattle.seq_objects.specs.declared.value.Value.{Value}
use Rattle.seq_objects.specs.declared.value.Value.TheVariants.{Nil, False, True}
use Rattle.history.specs.UsualForms.{ReadsValue}
use Rattle.history.proofs.UsualForms.{nil_here, false_here, true_here, integer_here}
use Rattle.history.proofs.usual.value_at.Goals as goal

word : (text w : List ℕ) (v : Value) (r : Option (Value × Bor (List ℕ)))
    → ((rest : List ℕ) → EndsToken rest → text ≡ w ++ rest → ReadsValue text v rest)
    → IfSome r (λ x. (x.0 ≡ v) × EndsToken x.1.now × (text ≡ w ++ x.1.now))
    → IfSome r (λ x. ReadsValue text x.0 x.1.now)
word text w v None h k = tt
word text w v (Some x) h k = subst (λ (y : Value). ReadsValue text y x.1.now) (sym k.0) (h x.1.now k.1 k.2)

pub returns-in-110 : goal.returns-in-110
returns-in-110 c = word c.args.text.now (codes "nil") Nil c.word_at.result (nil_here c.args.text.now) c.word_at.ensures

pub returns-in-102 : goal.returns-in-102
returns-in-102 c = word c.args.text.now (codes "false") False c.word_at-in-102.result
    (false_here c.args.text.now) c.word_at-in-102.ensures

pub returns-in-116 : goal.returns-in-116
returns-in-116 c = word c.args.text.now (codes "true") True c.word_at-in-116.result
    (true_here c.args.text.now) c.word_at-in-116.ensures

pub returns-in_ok-number-in_default : goal.returns-in_ok-number-in_default
returns-in_ok-number-in_default c =
    let e : to_z w64 (of_z w64 c.in_ok-number-in_default.number) ≡ c.in_ok-number-in_default.number =
    omega (arith, ints) in
    rw e (integer_here c.in_ok-number-in_default.number c.args.text.now c.in_ok-number-in_default.rest.now
    c.in_ok-number-in_default.ensures)
