-- The counts of kinds in a map, in the order in which the kinds came.
use Rattle.std.proofs.Common.{◌≡◌, ◌∙◌, false, cond, List, [], ◌∷◌, ◌++◌, map, ap, refl, sym, rules}
use Rattle.std.specs.List.{list_any}
use Rattle.std.specs.Map.{keys_of, values_of}
use Rattle.std.proofs.lemmas.Bool.{or_parts}
use Rattle.std.proofs.lemmas.List.{map-append}
use Rattle.indexmap.specs.IndexMap.{insert_entry}
use Rattle.model.specs.declared.Kind.{Kind}
use Rattle.model.specs.contracts.KindPartialEq.TheImpl.{eq-value}
use Rattle.report.specs.Counts.{same_kind}
use Rattle.report.specs.declared.verdict.KindCount.{KindCount}

-- the derived test of kinds
equal_kinds : (k l : Kind) → eq-value.it k l ≡ same_kind k l
equal_kinds k l = search rules

-- a kind that is not there goes last
goes_last : (es : List (Kind × KindCount)) (k : Kind) (c : KindCount) → list_any (same_kind k) (keys_of es)
    ≡ false → insert_entry eq-value.it es k c ≡ es ++ (k, c) ∷ []
goes_last [] k c h = refl
goes_last (e ∷ es) k c h =
    let parts = or_parts (same_kind k e.0) (list_any (same_kind k) (keys_of es)) h in
    ap (λ b. cond b ((e.0, c) ∷ es) (e ∷ insert_entry eq-value.it es k c)) (equal_kinds k e.0 ∙ parts.0)
    ∙ ap (λ l. e ∷ l) (goes_last es k c parts.1)

module _ (count : Kind → KindCount) (es : List (Kind × KindCount)) (k : Kind) (c : KindCount)
    (none : list_any (same_kind k) (keys_of es) ≡ false) where
  -- and so its key goes last among the keys
  pub key_last : keys_of (insert_entry eq-value.it es k c) ≡ keys_of es ++ k ∷ []
  key_last = ap keys_of (goes_last es k c none) ∙ map-append (λ (e : Kind × KindCount). e.0) es ((k, c) ∷ [])

  -- and the counts are still those of the keys
  pub counts_on : c ≡ count k → values_of es ≡ map count (keys_of es) → values_of (insert_entry eq-value.it es k c)
      ≡ map count (keys_of (insert_entry eq-value.it es k c))
  counts_on is counted =
      ap values_of (goes_last es k c none) ∙ map-append (λ (e : Kind × KindCount). e.1) es ((k, c) ∷ [])
      ∙ ap (λ cs. cs ++ c ∷ []) counted ∙ ap (λ x. map count (keys_of es) ++ x ∷ []) is
      ∙ sym (map-append count (keys_of es) (k ∷ [])) ∙ ap (map count) (sym key_last)
