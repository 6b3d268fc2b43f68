-- Trusted exit statuses decide the full history, if the workers were right: a yes of all is a yes of each, whose text
-- is then that of 0, and a no is a no of one.
use Rattle.std.proofs.Common.{◌≡◌, ◌∙◌, ℕ, ◌+◌, ◌<◌, ◌≤◌, ◌⊎◌, inl, inr, List, [], ◌∷◌, ◌++◌, Bool, true, false, cond}
use Rattle.std.proofs.Common.{Option, Some, None, append-nil, append_assoc, arith, ap, codes, get_or, length, refl}
use Rattle.std.proofs.Common.{sym, subst}
use Rattle.std.specs.Prelude.{unwrap_or}
use Rattle.std.specs.Str.{bytes_eq}
use Rattle.std.proofs.lemmas.Bool.{cases_lt}
use Rattle.std.proofs.lemmas.Slice.Eq.{bytes_eq-Decides}
use Rattle.model.proofs.Lists.{contains_from_in, in_from_get}
use Rattle.shards.specs.Dividing.{Files, name_in_shard, shard_among}
use Rattle.shards.specs.ShardTexts.{IsLinearizableAtAnyLength}
use Rattle.shards.proofs.DecidingTexts.{linearizable_where_judged, refuted_by_shard}
use Rattle.shards.proofs.NumberedShards.{empty_past}
use Rattle.history_commands.specs.Merged.{worse}
use Rattle.history_commands.specs.Outputs.{status_number}
use Rattle.history_commands.specs.declared.finding.Finding.{Finding}
use Rattle.history_commands.specs.declared.finding.Finding.TheVariants.{Certified, Undecided, Refuted, Malformed}
use Rattle.history_commands.specs.declared.status.Status.TheVariants.{Yes, No}
use Rattle.history_commands.proofs.Findings.{all_certified, no_refuted, some_refuted, worst_push, yes_certified}
use Rattle.file_commands.specs.Trusted.{AreTrusted, AreStatusesRead, HoldingStatus, IsTrustedOfFolder, IsEachNoRight}
use Rattle.file_commands.specs.Trusted.{IsEachYesRight, finding_by, finding_of, lines_from, said_by, said_line, said_of}
use Rattle.file_commands.specs.Leaves.{Leaves}
use Rattle.file_commands.specs.Sharded.{AreShardsOf}
use Rattle.file_commands.specs.declared.trusting.Trusted.{Trusted}
use Rattle.history_commands.proofs.Numbers.{no_by_number, yes_by_number}
use Rattle.file_commands.proofs.StatusMeanings.{memory_not_no, memory_not_yes, no_not_failed, yes_not_failed}

-- ---- one shard more

lines_push : (n : ℕ) (read : List (Option (List ℕ))) (r : Option (List ℕ))
    → lines_from n (read ++ r ∷ []) ≡ lines_from n read ++ said_line (n + length read) (said_of r)
lines_push n [] r = ap (λ k. said_line k (said_of r) ++ []) (omega arith) ∙ append-nil _
lines_push n (x ∷ read) r =
    ap (λ t. said_line n (said_of x) ++ t) (lines_push (n + 1) read r)
    ∙ (sym (append_assoc (said_line n (said_of x)) (lines_from (n + 1) read)
    (said_line (n + 1 + length read) (said_of r)))
    ∙ ap (λ k. lines_from n (x ∷ read) ++ said_line k (said_of r)) (omega arith))

pub trusted_push : (b later : Trusted) (shard : ℕ) (read : List (Option (List ℕ))) (r : Option (List ℕ))
    → AreTrusted b read → length read ≡ shard → later.finding ≡ worse b.finding (finding_of r)
    → later.lines.items ≡ b.lines.items ++ said_line shard (said_of r) → AreTrusted later (read ++ r ∷ [])
trusted_push b later shard read r h long finding lines = record {
  finding_is = finding ∙ (ap (λ f. worse f (finding_of r)) h.finding_is ∙ sym (worst_push finding_of read r));
  lines_are = lines ∙ (ap (λ t. t ++ said_line shard (said_of r)) h.lines_are
      ∙ (ap (λ n. lines_from 0 read ++ said_line n (said_of r)) (omega (arith, long)) ∙ sym (lines_push 0 read r)));
}

-- ---- what the text of a status says

-- one text is this one, and says that, or the others say it
by_text : (text this : List ℕ) (f g : Finding) (others : Option Finding)
    → cond (bytes_eq text this) (Some f) others ≡ Some g
    → ((text ≡ this) × (f ≡ g)) ⊎ (others ≡ Some g)
by_text text this f g others e = go (bytes_eq text this) (bytes_eq-Decides text this).0 e
  where
    go : (b : Bool) → (b ≡ true → text ≡ this) → cond b (Some f) others ≡ Some g
        → ((text ≡ this) × (f ≡ g)) ⊎ (others ≡ Some g)
    go true is q = inl (is refl, cc)
    go false is q = inr q

says_yes : (text : List ℕ) → said_by text ≡ Some Certified → text ≡ codes "0\n"
says_yes text e = elim (by_text text (codes "0\n") Certified Certified _ e) [
  | inl p ↦ p.0
  | inr e ↦ elim (by_text text (codes "1\n") Refuted Certified _ e) [
    | inl p ↦ absurd cc
    | inr e ↦ elim (by_text text (codes "2\n") Malformed Certified _ e) [
      | inl p ↦ absurd cc
      | inr e ↦ elim (by_text text (codes "3\n") Undecided Certified _ e) [ inl p ↦ absurd cc | inr e ↦ absurd cc ]
    ]
  ]
]

says_no : (text : List ℕ) → said_by text ≡ Some Refuted → text ≡ codes "1\n"
says_no text e = elim (by_text text (codes "0\n") Certified Refuted _ e) [
  | inl p ↦ absurd cc
  | inr e ↦ elim (by_text text (codes "1\n") Refuted Refuted _ e) [
    | inl p ↦ p.0
    | inr e ↦ elim (by_text text (codes "2\n") Malformed Refuted _ e) [
      | inl p ↦ absurd cc
      | inr e ↦ elim (by_text text (codes "3\n") Undecided Refuted _ e) [ inl p ↦ absurd cc | inr e ↦ absurd cc ]
    ]
  ]
]

-- what is not undecided is said
was_said : (said : Option Finding) (f : Finding) → unwrap_or said Undecided ≡ f → (Undecided ≡ f → ⊥) → said ≡ Some f
was_said None f e other = absurd (other e)
was_said (Some g) f e other = ap Some e

yes_read : (r : Option (List ℕ)) → finding_of r ≡ Certified → r ≡ Some (codes "0\n")
yes_read None e = absurd cc
yes_read (Some text) e = ap Some (says_yes text (was_said (said_by text) Certified e (λ q. cc)))

no_read : (r : Option (List ℕ)) → finding_of r ≡ Refuted → r ≡ Some (codes "1\n")
no_read None e = absurd cc
no_read (Some text) e = ap Some (says_no text (was_said (said_by text) Refuted e (λ q. cc)))

-- ---- the full history

module _ (holds : HoldingStatus) (count : ℕ) (some : 0 < count) (whole : List ℕ) (files : Files)
    (divided : AreShardsOf count whole files) where
  module _ (read : List (Option (List ℕ))) (each : length read ≡ count) (are_read : AreStatusesRead holds read) where
    whole_linearizable : finding_by read ≡ Certified → IsEachYesRight holds count files
        → IsLinearizableAtAnyLength whole
    whole_linearizable found right =
        linearizable_where_judged (shard_among count) name_in_shard whole files.texts divided.split
        (λ s. elim (cases_lt s (length read)) [
          | inl below ↦
              let is = yes_read (get_or read s None) (all_certified finding_of read found (get_or read s None)
              (in_from_get read s None below)) in
              right s (subst (λ n. s < n) each below) (subst (holds s) is (are_read s None below))
          | inr past ↦ inl (empty_past count some s (subst (λ n. n ≤ s) each past) whole files divided)
        ])

    whole_refuted : finding_by read ≡ Refuted → IsEachNoRight holds count files → IsLinearizableAtAnyLength whole → ⊥
    whole_refuted found right =
        let r = some_refuted finding_of read found in
        let at = contains_from_in read r.0 r.1 in
        let held : holds at.0 (Some (codes "1\n")) =
        subst (holds at.0) (at.2 ∙ no_read r.0 r.2) (are_read at.0 r.0 at.1) in
        refuted_by_shard (shard_among count) name_in_shard whole files.texts divided.split at.0
        (right at.0 (subst (λ n. at.0 < n) each at.1) held)

  module _ {before after : Option (List ℕ)} {number : ℕ} {broken : Bool}
      (h : Leaves (IsTrustedOfFolder holds count) before number after broken) where
    pub trusted_yes : number ≡ status_number Yes → IsEachYesRight holds count files → IsLinearizableAtAnyLength whole
    trusted_yes e right =
        let w = h.written (yes_not_failed number e) in
        let is = yes_by_number w.0 (sym w.3 ∙ e) in
        elim w.2 [
          | inl b ↦ whole_linearizable b.0 b.1 b.2 (yes_certified (finding_by b.0) (sym b.3.0 ∙ is)) right
          | inr memory ↦ absurd (memory_not_yes w.0 memory.0 is)
        ]

    pub trusted_no : number ≡ status_number No → IsEachNoRight holds count files → IsLinearizableAtAnyLength whole → ⊥
    trusted_no e right =
        let w = h.written (no_not_failed number e) in
        let is = no_by_number w.0 (sym w.3 ∙ e) in
        elim w.2 [
          | inl b ↦ whole_refuted b.0 b.1 b.2 (no_refuted (finding_by b.0) (sym b.3.0 ∙ is)) right
          | inr memory ↦ absurd (memory_not_no w.0 memory.0 is)
        ]
