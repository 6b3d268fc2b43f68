-- A history of any length that is divided into a number of shards: the text of each, and a table of
-- the numbers that its maps have in the full history.
use Rattle.std.specs.Prelude.{◌≡◌, ℕ, ◌+◌, ◌-◌, ◌*◌, ◌/◌, ◌%◌, ◌==◌, Bool, List, [], ◌∷◌, ◌++◌, ◌<◌}
use Rattle.std.specs.Prelude.{Some, decimal, map, if◌then◌else◌, get_or, length}
use Rattle.edn_reader.specs.Datum.{Datum}
use Rattle.events.specs.declared.event.Event.{Event}
use Rattle.shards.specs.Forms.{is_on}
use Rattle.history.specs.Maps.{ClientMap, client_of}
use Rattle.shards.specs.ShardTexts.{IsSplit, SpelledMap}

-- how many objects a text may name: those from 0 to 65,535
abbrev pub most_names : ℕ
most_names = 65536

-- of this many shards, the one with object x
abbrev pub shard_among : ℕ → ℕ → ℕ
shard_among count x = (x / most_names + x % most_names) % count

-- the name of object x in its shard: its own number, if a text may name it
abbrev pub name_in_shard : ℕ → ℕ
name_in_shard x = x % most_names

-- of this many shards, the object that has this name in this one
abbrev pub object_named : ℕ → ℕ → ℕ → ℕ
object_named count shard name =
    ((shard + (count - name % most_names % count)) % count) * most_names + name % most_names

-- this object fits, and has this shard and this name
pub record IsObjectOfShard (count shard name x : ℕ) : Type 0 where
  pub fits : x / most_names < count
  pub in_shard : shard_among count x ≡ shard
  pub by_name : name_in_shard x ≡ name

-- the form is on no object that does not fit into this many shards
abbrev pub FitsAmong : ℕ → Datum → Type 0
FitsAmong count d = (c : ClientMap) → client_of d ≡ Some c → c.object / most_names < count

-- the map is on no object that does not fit into this many shards
abbrev pub ObjectFits : ℕ → SpelledMap → Type 0
ObjectFits count m = FitsAmong count m.form

-- the places of the maps of clients on some objects, if the first form is in this place
abbrev pub places_from : ℕ → (ℕ → Bool) → List Datum → List ℕ
places_from n has [] = []
places_from n has (d ∷ ds) =
    (if is_on has d then n ∷ [] else []) ++ places_from (n + 1) has ds

-- the text of a table: a number on each line
abbrev pub table_text : List ℕ → List ℕ
table_text [] = []
table_text (n ∷ ns) = decimal n ++ 10 ∷ table_text ns

-- the text that says how many maps each shard has: how many shards there are, and then these
-- numbers, one on each line
abbrev pub counts_text : List ℕ → List ℕ
counts_text counts = table_text (length counts ∷ counts)

-- what is in the files of the shards: of each shard the text, and the table
pub record Files : Type 0 where
  pub texts : ℕ → List ℕ
  pub tables : ℕ → List ℕ

-- The texts are a split of the full history, and the table of each shard has the places that its
-- maps have in the full history.
pub record IsDivided (shard_of name : ℕ → ℕ) (whole : List ℕ) (files : Files) : Type 0 where
  pub split : IsSplit shard_of name whole files.texts
  pub tables : (s : ℕ) → files.tables s
      ≡ table_text (places_from 0 (λ x. shard_of x == s) (map (λ m. m.form) split.maps))

-- the event with the number that is in its place of the list: the map in place k of a shard's text
-- gets the number that it has in the full history
abbrev pub numbered_by : List ℕ → Event → Event
numbered_by ns e = record e { number = get_or ns e.number 0 }

-- each event with the number that is in its place of the list: those of a shard's text get the
-- numbers that their maps have in the full history
abbrev pub with_numbers : List ℕ → List Event → List Event
with_numbers ns es = map (numbered_by ns) es
