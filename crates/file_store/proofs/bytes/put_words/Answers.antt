use Rattle.std.proofs.Common.{ℕ, ap, ◌∙◌, arith}
use Rattle.file_store.specs.FileRows.{words_in}
use Rattle.file_store.proofs.Written.{words_back}
use Rattle.file_store.proofs.bytes.put_words.Goals as goal

pub returns-clause-bytes : goal.returns-clause-bytes
returns-clause-bytes c = c.write_u64_into.ensures

pub returns-clause-back : goal.returns-clause-back
returns-clause-back c = ap words_in c.write_u64_into.ensures ∙ words_back c.args.words.now (λ (k : ℕ). omega (arith, c.type_inv.words k))
