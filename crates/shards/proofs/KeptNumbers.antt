-- The events of a shard with the numbers of its table are those of the full history. The table is that of the places of
-- its maps, and has one list of numbers only.
use Rattle.std.proofs.Common.{◌≡◌, ℕ, ◌==◌, ◌^◌, ◌≤◌, List, [], ◌∷◌, length, map, refl, ◌∙◌, arith}
use Rattle.std.proofs.lemmas.List.{length-map}
use Rattle.events.specs.declared.event.Event.{Event}
use Rattle.history.specs.Denotes.{events_of_forms}
use Rattle.shards.specs.Dividing.{Files, IsDivided, places_from, table_text, with_numbers}
use Rattle.shards.specs.Forms.{forms_on}
use Rattle.shards.specs.Shards.{events_on, renamed}
use Rattle.shards.specs.ShardTexts.{SpelledMap, TextDenotes}
use Rattle.shards.specs.Tables.{AreShort}
use Rattle.shards.proofs.DecidingTexts.{own_is, whole_is}
use Rattle.shards.proofs.RenamedForms.{own_events_are}
use Rattle.shards.proofs.Tables.{numbers_kept, one_table, places_small}

-- events are renumbered and renamed in any order
renamed_numbers : (name : ℕ → ℕ) (ns : List ℕ) (es : List Event)
    → with_numbers ns (renamed name es) ≡ renamed name (with_numbers ns es)
renamed_numbers name ns [] = refl
renamed_numbers name ns (e ∷ es) = rw (renamed_numbers name ns es)

-- the numbers of a shard's table are those that its events have in the full history
pub keeps_numbers : (shard_of name : ℕ → ℕ) (whole : List ℕ) (files : Files) (es own : List Event)
    → (d : IsDivided shard_of name whole files) → length d.split.maps ≤ 2 ^ 32
    → TextDenotes whole es → (s : ℕ) → TextDenotes (files.texts s) own
    → (ns : List ℕ) → AreShort ns → table_text ns ≡ files.tables s
    → with_numbers ns own ≡ renamed name (events_on (λ x. shard_of x == s) es)
keeps_numbers shard_of name whole files es own d few all s part ns small table =
    let has = λ (x : ℕ). shard_of x == s in
    let forms = map (λ (m : SpelledMap). m.form) d.split.maps in
    let same = length-map d.split.maps (λ (m : SpelledMap). m.form) in
    let places = places_from 0 has forms in
    let are : ns ≡ places = one_table ns places small (places_small 0 has forms (2 ^ 32) (omega (arith, few, same)))
    (table ∙ d.tables s) in
    rw (
      are,
      own_is d.split s own part,
      own_events_are name has d.split.maps d.split.each,
      renamed_numbers name places (events_of_forms 0 (forms_on has forms)),
      numbers_kept has forms,
      whole_is d.split es all,
    )
