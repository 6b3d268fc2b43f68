use Rattle.std.proofs.Common.{◌≡◌, ℕ, List, ◌++◌, take, drop, true, ap, sym, ◌∙◌}
use Rattle.std.specs.Str.{bytes_eq}
use Rattle.std.proofs.lemmas.Slice.Eq.{bytes_eq-Decides}
use Rattle.std.proofs.lemmas.List.{take-append-drop}
use Rattle.edn_reader.proofs.front.after.Goals as goal

begins : (n : ℕ) (text front bytes rest : List ℕ) → true ≡ bytes_eq front bytes → front ≡ take n text
    → rest ≡ drop n text → text ≡ bytes ++ rest
begins n text front bytes rest e f r =
    let same : front ≡ bytes = (bytes_eq-Decides front bytes).0 (sym e) in
    sym (take-append-drop n text) ∙ ap (λ (x : List ℕ). x ++ drop n text) (sym f ∙ same)
    ∙ ap (λ (x : List ℕ). bytes ++ x) (sym r)

pub returns-then-eq : goal.returns-then-eq
returns-then-eq g c =
    begins _ c.args.text.now c.in_ok-front.front.now c.args.bytes.now c.in_ok-front.rest.now c.if-eq.ensures
    c.in_ok-front.ensures.cases.0 c.in_ok-front.ensures.cases.1
