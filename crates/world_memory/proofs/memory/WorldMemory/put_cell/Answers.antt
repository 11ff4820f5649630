use Rattle.std.proofs.Common.{◌≡◌, length, subst, sym, arith}
use Rattle.pointer_word.specs.Hands.{upd}
use Rattle.world_memory.specs.Tables.{Tables}
use Rattle.world_memory.specs.Shown.{AreTables}
use Rattle.world_memory.proofs.Showing.{cell_set}
use Rattle.world_memory.proofs.memory.WorldMemory.put_cell.Goals as goal

pub returns : goal.returns
returns c z s shown inside low =
    let f = c.args.frame in
    let k = c.args.index in
    let v = c.args.value in
    let many : length c.args.self.now.frames ≡ z.frames = shown.frames_many in
    let size : c.args.self.now.size ≡ z.cells = shown.size in
    subst (λ (t : Tables). AreTables z t s.word s.note s.frame (upd s.cell f (upd (s.cell f) k v))) (sym (c.set_cell.ensures (omega arith) (omega arith)))
    (cell_set z c.args.self.now s.word s.note s.frame s.cell f k v shown inside low)
