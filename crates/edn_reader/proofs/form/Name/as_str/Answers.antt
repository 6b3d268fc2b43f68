use Rattle.edn_reader.proofs.Names.{name_utf8}
use Rattle.edn_reader.proofs.form.Name.as_str.Goals as goal

pub from_utf8_unchecked-requires : goal.from_utf8_unchecked-requires
from_utf8_unchecked-requires c = name_utf8 c.as_bytes.result.now c.as_bytes.ensures.spelled
