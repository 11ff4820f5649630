use Rattle.file_store.proofs.Written.{kept_whole}
use Rattle.file_store.proofs.laws.put_into_file.Goals as goal

pub returns-clause-whole : goal.returns-clause-whole
returns-clause-whole g c = kept_whole _ _ c.args.berth.now.version _ _ _ c.put.ensures.version c.in_ok-put.ensures.put
