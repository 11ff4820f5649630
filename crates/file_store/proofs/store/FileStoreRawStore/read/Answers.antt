use Rattle.std.proofs.Common.{ℕ, List, take, refl, sym, ap, subst, ◌∙◌, inr, arith}
use Rattle.std.proofs.lemmas.List.{length-take-le}
use Rattle.file_store.proofs.Written.{row_taken}
use Rattle.file_store.proofs.store.FileStoreRawStore.read.Goals as goal

pub returns-clause-got : goal.returns-clause-got
returns-clause-got g c = λ h ws k same. row_taken _ c.read.new.bytes ws c.take_words.new.words _ _ (c.in-Ok.ensures.got h) (omega (arith, c.read.ensures.length, c.in-Ok.ensures.room)) c.if-count-size.false c.take_words.ensures.bytes c.take_words.ensures.back k same

pub returns-clause-gave : goal.returns-clause-gave
returns-clause-gave g c =
    let P : List ℕ → Type 0 = λ found. g.D.Folder.read_gives c.args.self.now.folder c.args.c.now found c.read.new.self in
    subst P (ap (λ (n : ℕ). take n c.read.new.bytes) c.if-count-size.false ∙ sym c.take_words.ensures.bytes) c.in-Ok.ensures.gave

pub returns-then-count-size-clause-cause : goal.returns-then-count-size-clause-cause
returns-then-count-size-clause-cause g c = (
  refl,
  inr (take _ c.read.new.bytes, c.in-Ok.ensures.gave, λ e. c.if-count-size.true (sym (length-take-le _ c.read.new.bytes (omega (arith, c.read.ensures.length, c.in-Ok.ensures.room))) ∙ e)),
)
