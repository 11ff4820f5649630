use Rattle.std.proofs.Common.{◌≡◌, ◌∙◌, ◌+◌, ap}
use Rattle.cells.specs.Pieces.{cells_in}
use Rattle.remote_store.specs.declared.heap.FarHeap.{FarHeap}
use Rattle.file_store_tests.proofs.tests.lying.Goals as goal

pub returns : goal.returns
returns c =
    let words : c.in-Ok.stores.stores.words ≡ cells_in c.args.piece + 3 = ap (λ (heap : FarHeap). heap.words) c.in-Ok.ensures.stores ∙ c.new.ensures in
    (c.in_ok-one.ensures.makes (cells_in c.args.piece + 3) words, c.in_ok-one-2.ensures.makes (cells_in c.args.piece + 3) words)
