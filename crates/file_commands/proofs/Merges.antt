-- The shards in a folder show the full history that was split into them: the shards within the count are those that
-- were read and judged, and those past it are empty.
use Rattle.std.proofs.Common.{◌≡◌, ℕ, ◌<◌, ◌≤◌, ◌⊎◌, inl, inr, List, [], ◌∷◌, ◌++◌, get_or, length, All, sym, subst}
use Rattle.std.proofs.Common.{◌≢◌, ◌∙◌, ap, arith, Bool, Option}
use Rattle.std.specs.Prelude.{Any, slice_index}
use Rattle.std.proofs.lemmas.Bool.{cases_lt}
use Rattle.std.proofs.lemmas.List.{get_or_append_left, get_or_push, length-append}
use Rattle.reading.specs.Texts.{IsLinearizableText, IsNotLinearizableText}
use Rattle.shards.specs.Dividing.{Files, name_in_shard, shard_among}
use Rattle.shards.specs.ShardTexts.{IsLinearizableAtAnyLength}
use Rattle.shards.proofs.DecidingTexts.{linearizable_where_judged, refuted_by_shard}
use Rattle.shards.proofs.NumberedShards.{empty_past}
use Rattle.history_commands.specs.Merged.{HasMaps, HasMapsOrIsLarge, Shard}
use Rattle.shards.specs.Folders.{WasDivided}
use Rattle.shards.specs.declared.division.Division.{Division}
use Rattle.history_commands.specs.Outputs.{status_number}
use Rattle.history_commands.specs.declared.status.Status.{Status}
use Rattle.history_commands.specs.declared.status.Status.TheVariants.{Yes, No, Malformed, Undecided, Failed}
use Rattle.file_commands.specs.Leaves.{Leaves}
use Rattle.file_commands.specs.Sharded.{AreMapsCounted, AreShardsOf, AreShardsRead, FolderContents, FolderHoldsLines}
use Rattle.file_commands.specs.Sharded.{FolderHoldsSplit, IsMergeOfFolder, IsSplitOutput}
use Rattle.file_commands.proofs.LostLines.{all_lines}
use Rattle.history_commands.proofs.Numbers.{no_by_number, yes_by_number}
use Rattle.file_commands.proofs.StatusMeanings.{memory_not_no, memory_not_yes, no_not_failed, yes_not_failed}

not_malformed : (status : Status) → status ≡ Malformed
    → (status_number status ≡ status_number Yes) ⊎ (status_number status ≡ status_number Undecided) → ⊥
not_malformed status is (inl e) = let n = sym (ap status_number is) ∙ e in cc
not_malformed status is (inr e) = let n = sym (ap status_number is) ∙ e in cc

not_failed : {number : ℕ} → (number ≡ status_number Yes) ⊎ (number ≡ status_number Undecided)
    → number ≢ status_number Failed
not_failed (inl e) f = let n = sym e ∙ f in cc
not_failed (inr e) f = let n = sym e ∙ f in cc

no_shard : Shard
no_shard = record { number = 0; count = 0; maps = 0; text = []; table = []; evidence = []; limit = 0 }

-- what was read is in the order of its numbers: nothing so far, and one more
module _ {X : Type 0} (IsAt : ℕ → X → Type 0) where
  -- before the first shard nothing was read
  pub none_read : (k : ℕ) (d : X) → k < 0 → IsAt k (get_or [] k d)
  none_read k d below = absurd (omega (arith, below))

  -- one more shard was read, in the order of the numbers
  pub read_more : (xs : List X) (x : X) → ((k : ℕ) (d : X) → k < length xs → IsAt k (get_or xs k d))
      → IsAt (length xs) x → (k : ℕ) (d : X) → k < length (xs ++ x ∷ []) → IsAt k (get_or (xs ++ x ∷ []) k d)
  read_more xs x read own k d below = elim (cases_lt k (length xs)) [
    | inl less ↦ subst (IsAt k) (sym (get_or_append_left xs (x ∷ []) d k less)) (read k d less)
    | inr past ↦
        let last : length xs ≡ k = omega (arith, below, past, length-append xs (x ∷ [])) in
        subst (IsAt k) (sym (get_or_push xs x d k last)) (subst (λ n. IsAt n x) last own)
  ]

-- if each shard was read with its text, and is linearizable, then so is the full history
by_texts : (shards : List Shard) (count : ℕ) → 0 < count → length shards ≡ count → (whole : List ℕ) (files : Files)
    → AreShardsOf count whole files
    → ((s : ℕ) (d : Shard) → s < length shards → (get_or shards s d).text ≡ files.texts s)
    → All (λ s. IsLinearizableText s.text) shards → IsLinearizableAtAnyLength whole
by_texts shards count some each whole files divided own all =
    linearizable_where_judged (shard_among count) name_in_shard whole files.texts divided.split
    (λ s. elim (cases_lt s (length shards)) [
      | inl below ↦ inr (subst IsLinearizableText (own s no_shard below) (all s no_shard below))
      | inr past ↦ inl (empty_past count some s (subst (λ n. n ≤ s) each past) whole files divided)
    ])

module _ (holds : FolderContents) (counts : List ℕ) (limit : ℕ) (shards : List Shard)
    (long : length shards ≡ length counts) (read : AreShardsRead holds counts limit shards) where
  -- what applies to the text of each shard, with the maps that it was given
  pub each_counted : (IsCounted : ℕ → List ℕ → Type 0) → All (λ s. IsCounted s.maps s.text) shards
      → AreMapsCounted holds IsCounted counts
  each_counted IsCounted all s below =
      let inside : s < length shards = omega (arith, below, long) in
      let shard = get_or shards s no_shard in
      let own = read s no_shard inside in (
        shard.text,
        shard.table,
        shard.evidence,
        own.4,
        subst (λ n. IsCounted n shard.text) own.2 (all s no_shard inside),
      )

  -- texts with first lines of the shards, and as many maps as the shards were given, are whole
  pub linearizable_by_lines : 0 < length counts → (whole : List ℕ) → FolderHoldsLines holds counts whole
      → All (λ s. HasMaps s.maps s.text) shards → All (λ s. IsLinearizableText s.text) shards
      → IsLinearizableAtAnyLength whole
  linearizable_by_lines some whole split counted all =
      by_texts shards (length counts) some long whole split.files split.shards own all
    where
      own : (s : ℕ) (d : Shard) → s < length shards → (get_or shards s d).text ≡ split.files.texts s
      own s d below =
          let shard = get_or shards s d in
          let inside : s < length counts = subst (λ n. s < n) long below in
          let is_read = read s d below in
          let lines = split.lines s shard.text shard.table shard.evidence inside is_read.4 in
          let has = counted s d below in
          all_lines split.shards.split s shard.text lines.0 lines.1 has.events lines.2 lines.3 has.denoted
          (has.counted ∙ (is_read.2 ∙ split.counted s inside))

  module _ (count : ℕ) (some : 0 < count) (each : length shards ≡ count) (whole : List ℕ)
      (split : FolderHoldsSplit holds count whole) where
    abbrev files : Files
    files = split.0

    own_text : (s : ℕ) (d : Shard) → s < length shards → (get_or shards s d).text ≡ files.texts s
    own_text s d below =
        let shard = get_or shards s d in
        split.2 s shard.text shard.table shard.evidence (subst (λ n. s < n) each below) (read s d below).4

    pub whole_linearizable : All (λ s. IsLinearizableText s.text) shards → IsLinearizableAtAnyLength whole
    whole_linearizable all = by_texts shards count some each whole files split.1 own_text all

    pub whole_refuted : Any (λ s. IsNotLinearizableText s.text) shards → IsLinearizableAtAnyLength whole → ⊥
    whole_refuted (k, s, below, is, not) =
        refuted_by_shard (shard_among count) name_in_shard whole files.texts split.1.split k
        (subst IsNotLinearizableText (own_text k s below) (subst (λ x. IsNotLinearizableText x.text) (sym is) not))

-- ---- what the exit status says

module _ (count : ℕ) (left left_after : Option (List ℕ)) (files files_after : Option Files) (counts : List ℕ) where
  abbrev IsDividedSo : Type 0
  IsDividedSo = (told : Division) × WasDivided count told left left_after files files_after
      × (counts ≡ told.counts.items)

  by_status : (status : Status) (out : List ℕ)
      → IsSplitOutput count left left_after files files_after counts status out
      → (status_number status ≡ status_number Yes) ⊎ (status_number status ≡ status_number Undecided) → IsDividedSo
  by_status status out (inl divided) e = (divided.0, divided.1, divided.2)
  by_status status out (inr malformed) e = absurd (not_malformed status malformed.2.0 e)

  pub shows_divided : {before after : Option (List ℕ)} {number : ℕ} {broken : Bool}
      → Leaves (IsSplitOutput count left left_after files files_after counts) before number after broken
      → (number ≡ status_number Yes) ⊎ (number ≡ status_number Undecided) → IsDividedSo
  shows_divided h e =
      let w = h.written (not_failed e) in
      by_status w.0 w.1 w.2 (subst (λ n. (n ≡ status_number Yes) ⊎ (n ≡ status_number Undecided)) w.3 e)

module _ (holds : FolderContents) (counts : List ℕ) (limit : ℕ) {before after : Option (List ℕ)} {number : ℕ}
    {broken : Bool} (h : Leaves (IsMergeOfFolder holds counts limit) before number after broken) where
  pub shows_counted : number ≡ status_number Yes → AreMapsCounted holds HasMaps counts
  shows_counted e =
      let w = h.written (yes_not_failed number e) in
      let yes : w.0 ≡ Yes = yes_by_number w.0 (sym w.3 ∙ e) in
      elim w.2 [
        | inl merged ↦ each_counted holds counts limit merged.0 merged.1 merged.2 HasMaps (merged.3.counted yes)
        | inr memory ↦ absurd (memory_not_yes w.0 memory.0 yes)
      ]

  pub shows_none_miscounted : number ≡ status_number No → AreMapsCounted holds HasMapsOrIsLarge counts
  shows_none_miscounted e =
      let w = h.written (no_not_failed number e) in
      let no : w.0 ≡ No = no_by_number w.0 (sym w.3 ∙ e) in
      elim w.2 [
        | inl merged ↦ each_counted holds counts limit merged.0 merged.1 merged.2 HasMapsOrIsLarge
            (merged.3.none_miscounted (λ bad. cc))
        | inr memory ↦ absurd (memory_not_no w.0 memory.0 no)
      ]

  pub shows_whole : 0 < length counts → number ≡ status_number Yes → (whole : List ℕ)
      → FolderHoldsLines holds counts whole → IsLinearizableAtAnyLength whole
  shows_whole some e whole split =
      let w = h.written (yes_not_failed number e) in
      let yes : w.0 ≡ Yes = yes_by_number w.0 (sym w.3 ∙ e) in
      elim w.2 [
        | inl merged ↦ linearizable_by_lines holds counts limit merged.0 merged.1 merged.2 some whole split
            (merged.3.counted yes) (merged.3.linearizable yes)
        | inr memory ↦ absurd (memory_not_yes w.0 memory.0 yes)
      ]

  module _ (count : ℕ) (some : 0 < count) (long : length counts ≡ count) (whole : List ℕ)
      (split : FolderHoldsSplit holds count whole) where
    pub shows_linearizable : number ≡ status_number Yes → IsLinearizableAtAnyLength whole
    shows_linearizable e =
        let w = h.written (yes_not_failed number e) in
        let yes : w.0 ≡ Yes = yes_by_number w.0 (sym w.3 ∙ e) in
        elim w.2 [
          | inl merged ↦ whole_linearizable holds counts limit merged.0 merged.1 merged.2 count some (merged.1 ∙ long)
              whole split (merged.3.linearizable yes)
          | inr memory ↦ absurd (memory_not_yes w.0 memory.0 yes)
        ]

    pub shows_refuted : number ≡ status_number No → IsLinearizableAtAnyLength whole → ⊥
    shows_refuted e =
        let w = h.written (no_not_failed number e) in
        let no : w.0 ≡ No = no_by_number w.0 (sym w.3 ∙ e) in
        elim w.2 [
          | inl merged ↦ whole_refuted holds counts limit merged.0 merged.1 merged.2 count some (merged.1 ∙ long) whole
              split (merged.3.refuted no)
          | inr memory ↦ absurd (memory_not_no w.0 memory.0 no)
        ]
