use Rattle.std.proofs.Common.{◌≡◌, ℕ, sym, ap, ◌∙◌, arith}
use Rattle.file_store.specs.FileRows.{word_bytes, words_in}
use Rattle.file_store.proofs.Written.{taken, words_back}
use Rattle.file_store.proofs.bytes.take_words.Goals as goal

pub returns-clause-bytes : goal.returns-clause-bytes
returns-clause-bytes c = taken c.read_u64_into.new.dst c.args.bytes.now (omega arith) (λ (k : ℕ). omega (arith, c.type_inv.bytes k)) c.read_u64_into.ensures

pub returns-clause-back : goal.returns-clause-back
returns-clause-back c =
    let made : word_bytes c.read_u64_into.new.dst ≡ c.args.bytes.now = returns-clause-bytes c in
    ap words_in (sym made) ∙ words_back c.read_u64_into.new.dst (λ (k : ℕ). omega (arith, c.type_inv.words k))
