use Rattle.std.proofs.Common.{List, ℕ, ap, ◌∙◌}
use Rattle.std.specs.Prelude.{Some}
use Rattle.file_store.proofs.Written.{row_written}
use Rattle.file_store.proofs.store.FileStoreRawStore.write.Goals as goal

pub returns-in-Ok-clause-put : goal.returns-in-Ok-clause-put
returns-in-Ok-clause-put g c = row_written _ _ c.args.w.now c.in-Ok.ensures.put c.put_words.ensures.bytes c.put_words.ensures.back

pub returns-in-Ok-clause-bytes : goal.returns-in-Ok-clause-bytes
returns-in-Ok-clause-bytes g c = c.in-Ok.ensures.put ∙ ap (λ (bytes : List ℕ). Some bytes) c.put_words.ensures.bytes
