use Rattle.std.proofs.Common.{refl, arith}
use Rattle.edn_reader.specs.declared.bytes.TheConstants.{CLASS}
use Rattle.edn_reader.specs.Bytes.{is_token_byte}
use Rattle.edn_reader.proofs.Tables.{agree_below, from_table}
use Rattle.edn_reader.proofs.bytes.is_token_byte.Goals as goal

pub returns : goal.returns
unfolding agree_below is_token_byte
returns c = from_table CLASS 2 is_token_byte c.args.b (omega arith) refl
