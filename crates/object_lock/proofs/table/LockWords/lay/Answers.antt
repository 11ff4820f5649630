use Rattle.std.proofs.Common.{ap, ◌∙◌, ◌≡◌, ℕ, List, get_or, ◌+◌, ◌*◌, replicate}
use Rattle.object_lock.proofs.Opening.{opens_table, zero_row}
use Rattle.object_lock.proofs.Joins.{joined_opens}
use Rattle.object_lock.proofs.table.LockWords.lay.Goals as goal

pub new-requires : goal.new-requires
new-requires g c = let n : ℕ = c.args.shape.objects + c.args.shape.frames + c.args.shape.frames * c.args.shape.cells in
    let is : c.as_slice.result.now ≡ (let z : ℕ = 0 in replicate n z) = c.as_slice.ensures.value ∙ c.in_ok-words.ensures.items_if_clones_equal (λ y h. h) in
    joined_opens _ _ _ _ c.as_slice.result.now c.args.slots.items _ (opens_table _ _ _ _ _ _ c.requires.small.3 c.as_slice.result.now c.args.slots.items (c.as_slice.ensures.len ∙ c.in_ok-words.ensures.len) c.requires.slots c.requires.small.1
    (λ i. ap (λ (ws : List ℕ). get_or ws i 0) is ∙ zero_row n i) c.requires.fresh c.requires.small.4)
