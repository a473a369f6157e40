use Rattle.query_core.proofs.Laying.{strings_written}
use Rattle.query_core.proofs.writing.put_strings.Goals as goal

pub returns : goal.returns
returns c = strings_written _ _ _ _ _ _ _ _ c.put_bytes.ensures c.put_bytes-2.ensures c.put_bytes-3.ensures
