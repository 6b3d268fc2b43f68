use Rattle.std.proofs.Common.{inl, inr, ap, ◌∙◌}
use Rattle.edn_reader.specs.Bytes.{is_name}
use Rattle.edn_reader.proofs.FormsOfTokens.{leaf_own, open_vector_alone, open_map_alone, close_vector_begins}
use Rattle.edn_reader.proofs.FormsOfTokens.{close_map_begins}
use Rattle.edn_reader.proofs.forming.leaf_of.Goals as goal

pub string_in-requires : goal.string_in-requires
string_in-requires c = leaf_own (rw c.in-Str.is at c.requires)

pub from_bytes-requires : goal.from_bytes-requires
from_bytes-requires c = ap is_name c.as_bytes.ensures.value ∙ leaf_own (rw c.in-Keyword.is at c.requires)

pub unreachable-requires : goal.unreachable-requires
unreachable-requires c = elim c.in-OpenVector.is [
  | inl e ↦ open_vector_alone (rw e at c.requires)
  | inr (inl e) ↦ close_vector_begins (rw e at c.requires)
  | inr (inr (inl e)) ↦ open_map_alone (rw e at c.requires)
  | inr (inr (inr e)) ↦ close_map_begins (rw e at c.requires)
]
