use Rattle.std.proofs.Common.{refl, arith}
use Rattle.edn_reader.specs.declared.bytes.TheConstants.{CLASS}
use Rattle.edn_reader.specs.Bytes.{is_name_byte}
use Rattle.edn_reader.proofs.Tables.{agree_below, from_table}
use Rattle.edn_reader.proofs.bytes.is_name_byte.Goals as goal

pub returns : goal.returns
unfolding agree_below
returns c = from_table CLASS 4 is_name_byte c.args.b (omega arith) refl
