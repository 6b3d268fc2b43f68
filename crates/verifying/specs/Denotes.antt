-- The claims that the forms of a text denote.
use Rattle.std.specs.Prelude.{◌≡◌, ◌==◌, ℕ, Bool, true, false, ◌&&◌, ◌||◌, not, nat_eq, nat_le}
use Rattle.std.specs.Prelude.{nat_lt, List, map, codes}
use Rattle.std.specs.Prelude.{Option, Some, None, option_map, is_some, if◌then◌else◌}
use Rattle.std.specs.List.{list_all, starts_with, before_first, after_first}
use Rattle.edn_reader.specs.Datum.{Datum, atom, string, dictionary}
use Rattle.edn.specs.Fields.{value_at}
use Rattle.certificate.specs.Denotes.{Reading, certificate_of, reading_of}
use Rattle.refutation.specs.Denotes.{ReasonSeen, reason_in}
use Rattle.refutation.specs.Denotes as reasons
use Rattle.seq_objects.specs.Kinds.{kinds_named}
use Rattle.seq_objects.specs.declared.kinds.Kinds.{Kinds}
use Rattle.seq_objects.specs.declared.kinds.Kinds.TheVariants.{One}
use Rattle.verifying.specs.declared.claim.Claim.{Claim}
use Rattle.verifying.specs.declared.claim.Claim.TheVariants as claim

-- ---- what a claim says, apart from how it is in memory

-- an order of an object's operations, or a reason why there is none, maybe with a sentence
pub data ClaimSeen : Type 0 where
  order : Reading → ClaimSeen
  reason : ReasonSeen → Option (List ℕ) → ClaimSeen

-- the claim, apart from how it is in memory
abbrev pub claim_seen : Claim → ClaimSeen
claim_seen (claim.Order c) = order (reading_of c)
claim_seen (claim.Reason r note) = reason (reasons.reason_seen r) (option_map (λ v. v.items) note)

-- the object that the claim is on
abbrev pub claim_object : Claim → ℕ
claim_object (claim.Order c) = c.object
claim_object (claim.Reason r _) = r.object

-- ---- forms

-- whether a form is a map with the key :order; then it claims an order, and otherwise a reason
abbrev pub names_order : Datum → Bool
names_order (dictionary es) = is_some (value_at (codes "order") es)
names_order other = false

-- whether a byte is a character of ASCII, and no control character
abbrev pub is_printed : ℕ → Bool
is_printed byte = nat_le 32 byte && nat_lt byte 127

-- whether a text begins as the line of a verdict does
abbrev pub begins_like_a_verdict : List ℕ → Bool
begins_like_a_verdict s =
    starts_with nat_eq s (codes "yes:")
    || starts_with nat_eq s (codes "no:")
    || starts_with nat_eq s (codes "malformed ")
    || starts_with nat_eq s (codes "not linearizable")
    || starts_with nat_eq s (codes "out of memory")

-- whether a text begins as a line of an answer does that is not the line of a kind, after the mark
-- of a comment or without one
abbrev pub begins_like_a_line : List ℕ → Bool
begins_like_a_line s =
    begins_like_a_verdict s
    || starts_with nat_eq s (codes "object ")
    || starts_with nat_eq s (codes "shard ")
    || starts_with nat_eq s (codes "event")
    || starts_with nat_eq s (codes "{")
    || starts_with nat_eq s (codes " ")

-- whether these are the kinds of a name that is one of a kind, and not `mixed`
abbrev pub is_one_kind : Option Kinds → Bool
is_one_kind (Some (One kind)) = true
is_one_kind other = false

-- whether a byte is a colon
abbrev pub is_colon : ℕ → Bool
is_colon byte = byte == 58

-- Whether a text begins as the line of a kind does, such as `queue: 1 objects, 2 operations`. What
-- is before the first colon is the name of a kind, and what is after it begins with a space.
abbrev pub begins_like_a_kind : List ℕ → Bool
begins_like_a_kind s =
    is_one_kind (kinds_named (before_first is_colon s))
    && starts_with nat_eq (after_first is_colon s) (codes " ")

-- whether a text may be the sentence of a reason: it has printed characters alone, and cannot be
-- taken for a line that is proved
abbrev pub is_sentence : List ℕ → Bool
is_sentence s =
    list_all (λ b. is_printed b) s && not (begins_like_a_line s) && not (begins_like_a_kind s)

-- the sentence that the value under :note is; `None` if there is none, or it is not a string that
-- may be a sentence
abbrev pub note_in : Option Datum → Option (List ℕ)
note_in (Some (atom (string s))) = if is_sentence s then Some s else None
note_in other = None

-- the sentence of a reason that a form has under :note, if it has one
abbrev pub note_of : Datum → Option (List ℕ)
note_of (dictionary es) = note_in (value_at (codes "note") es)
note_of other = None

-- The claim that a form is: with an :order a certificate, and without one a reason. Other keys are
-- ignored.
abbrev pub claim_in : Datum → Option ClaimSeen
claim_in d =
    if names_order d then option_map order (certificate_of d)
    else option_map (λ r. reason r (note_of d)) (reason_in d)

-- The forms are these claims, one by one and in order.
abbrev pub Denotes : List Datum → List Claim → Type 0
Denotes ds cs = map claim_in ds ≡ map (λ c. Some (claim_seen c)) cs
