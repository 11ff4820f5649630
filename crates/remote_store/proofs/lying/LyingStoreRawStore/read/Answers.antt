use Rattle.std.proofs.Common.{◌≡◌, ℕ, List, inr, sym, ap, subst, ◌∙◌}
use Rattle.remote_store.specs.Kept.{Reads}
use Rattle.remote_store.specs.Lies.{kept_behind}
use Rattle.remote_store.proofs.Apart.{apart, kept_told, stays}
use Rattle.remote_store.proofs.lying.LyingStoreRawStore.read.Goals as goal
use Rattle.remote_store.proofs.lying.LyingStoreRawStore.read.Goals.{else-named-via-then-named+else-tell, else-named-via-else-named}

pub returns-then-tell-clause-got : goal.returns-then-tell-clause-got
returns-then-tell-clause-got g c = λ h ws kept l.
    inr (apart c.args.self.now.lie c.deref.result.now c.deref-then-named.result.now c.deref-then-named-2.result.now c.read.new.w c.tell.new.row ws (g.S.RawStore.content c.args.c.now.cell)
    (sym c.tell.ensures.told ∙ c.if-tell.true) c.tell.ensures.row (ap (λ (last : List ℕ). kept_behind last (g.S.RawStore.content c.args.c.now.cell)) c.deref.ensures.value ∙ kept))

pub returns-else-named-clause-got : goal.returns-else-named-clause-got
returns-else-named-clause-got g c = λ h ws kept l.
    let given : Reads ws c.read.new.w = c.in-Ok.ensures.got h ws (kept_told c.args.c.now.last.items (g.S.RawStore.content c.args.c.now.cell) ws kept).0 l in
    elim c.else-named.branch [
      | else-named-via-then-named+else-tell w ↦
          let same : c.read.new.w ≡ w.tell.new.row = stays c.args.self.now.lie w.deref.result.now w.deref-then-named.result.now w.deref-then-named-2.result.now c.read.new.w w.tell.new.row
          (sym w.tell.ensures.told ∙ w.if-tell.false) w.tell.ensures.row in
          subst (Reads ws) (same ∙ sym w.w-is) given
      | else-named-via-else-named w ↦ subst (Reads ws) (sym w.w-is) given
    ]
