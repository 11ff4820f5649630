use Rattle.std.proofs.Common.{◌≡◌, suc, rules, arith, take, drop, ℕ, List, ◌∷◌, ◌∙◌, sym, ap, length, get_or}
use Rattle.remote_store.proofs.Reading.{gets, header_told, split}
use Rattle.remote_store.proofs.berth.Berth.get_by_way_of.Goals as goal
use Rattle.remote_store.proofs.berth.Berth.get_by_way_of.Goals.{then-row-obj-via-then-row-obj, then-row-obj-via-else-row-obj+then-row-self, then-row-obj-via-else-row-obj+else-row-self+then-row-words}

pub returns-clause-got : goal.returns-clause-got
returns-clause-got g c = λ h ws k.
    let l : length c.read.new.w ≡ suc (suc (suc (length c.args.words.now))) = search rules in
    c.copy_from_slice.ensures.after ∙ ap (λ (k : ℕ). take k (drop 3 c.read.new.w)) (omega (arith, l)) ∙ gets (length c.args.words.now) c.args.obj c.args.self.now.version (g.S.RawStore.content c.args.self.now.cell) c.read.new.w ws c.requires.stored l c.if-row-obj.false c.if-row-self.false c.if-row-words.false c.read.ensures.length (c.in-Ok.ensures.got h) k

pub returns-clause-read : goal.returns-clause-read
returns-clause-read g c =
    let l : length c.read.new.w ≡ suc (suc (suc (length c.args.words.now))) = search rules in (
      c.read.new.w,
      c.in-Ok.ensures.gave,
      split (length c.args.words.now) c.args.obj c.args.self.now.version c.read.new.w l c.if-row-obj.false c.if-row-self.false c.if-row-words.false
          ∙ ap (λ (ws : List ℕ). c.args.obj ∷ c.args.self.now.version ∷ length c.args.words.now ∷ ws) (ap (λ (k : ℕ). take k (drop 3 c.read.new.w)) (omega (arith, l)) ∙ sym c.copy_from_slice.ensures.after),
    )

pub returns-then-row-obj-clause-sure : goal.returns-then-row-obj-clause-sure
returns-then-row-obj-clause-sure g c = λ r ws k.
    let l : length c.read.new.w ≡ suc (suc (suc (length c.args.words.now))) = search rules in
    let told = header_told (length c.args.words.now) c.args.obj c.args.self.now.version (g.S.RawStore.content c.args.self.now.cell) c.read.new.w ws c.requires.stored l c.read.ensures.length (c.in-Ok.ensures.sure r).1 k in
    elim c.then-row-obj.branch [
      | then-row-obj-via-then-row-obj w ↦ absurd (w.if-row-obj.true (ap (λ (us : List ℕ). get_or us 0 0) told))
      | then-row-obj-via-else-row-obj+then-row-self w ↦ absurd (w.if-row-self.true (ap (λ (us : List ℕ). get_or us 1 0) told))
      | then-row-obj-via-else-row-obj+else-row-self+then-row-words w ↦ absurd (w.if-row-words.true (ap (λ (us : List ℕ). get_or us 2 0) told))
    ]
