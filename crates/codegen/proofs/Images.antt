-- Blocks that are closed.
use Rattle.std.proofs.Common.{◌≡◌, List, [], ◌∷◌, ◌++◌, refl, sym, ap, ◌∙◌}
use Rattle.std.specs.Prelude.{length, map, reverse, slice_index_or}
use Rattle.std.specs.declared.vec.Vec.{Vec}
use Rattle.std.specs.declared.alloc.Global.{Global}
use Rattle.std.proofs.lemmas.List.{map-append}
use Rattle.code_form.specs.declared.form.Fact.{Fact}
use Rattle.code_form.specs.declared.form.Instruction.{Instruction as RustInstruction}
use Rattle.code_form.specs.declared.form.Block.{Block as RustBlock}
use Rattle.code_form.specs.Form.{Block, Instruction, block_of, instruction_of}
use Rattle.codegen.specs.Building.{back, backs}
use Rattle.codegen.specs.Generated.{block_with, blocks_with}
use Rattle.codegen.proofs.Emits.{backs_push, length_backs, map_reverse}

pub closed_block : (w facts : List Fact) (is new : List RustInstruction) → facts ≡ w → new ≡ reverse is → record { facts = facts; code = map instruction_of new } ≡ block_with w (back is)
closed_block w facts is new e h =
    let with_facts : List Fact → Block = λ fs. record { facts = fs; code = map instruction_of new } in
    let with_code : List Instruction → Block = λ c. record { facts = w; code = c } in
    ap with_facts e ∙ ap with_code (ap (map instruction_of) h ∙ map_reverse instruction_of is)

-- one block more, with its entry facts
pub blocks_push : (ws : List (List Fact)) (bs : List (List Instruction)) (is : List Instruction) → blocks_with ws (bs ++ is ∷ []) ≡ blocks_with ws bs ++ block_with (slice_index_or ws (length bs) []) is ∷ []
blocks_push [] [] is = refl
blocks_push (w ∷ ws) [] is = refl
blocks_push [] (b ∷ bs) is = ap (λ (l : List Block). block_with [] b ∷ l) (blocks_push [] bs is)
blocks_push (w ∷ ws) (b ∷ bs) is = ap (λ (l : List Block). block_with w b ∷ l) (blocks_push ws bs is)

pub closed_push : (ws : List (List Fact)) (yielded : List (Vec RustInstruction Global)) (code : Vec RustInstruction Global) (closed : List RustBlock) (block : RustBlock)
    → map block_of closed ≡ blocks_with ws (backs yielded) → length closed ≡ length yielded → block_of block ≡ block_with (slice_index_or ws (length closed) []) (back code.items)
    → map block_of (closed ++ block ∷ []) ≡ blocks_with ws (backs (yielded ++ code ∷ []))
closed_push ws yielded code closed block h k e =
    map-append block_of closed (block ∷ []) ∙ ap (λ l. l ++ block_of block ∷ []) h
    ∙ ap (λ b. blocks_with ws (backs yielded) ++ b ∷ []) (e ∙ ap (λ i. block_with (slice_index_or ws i []) (back code.items)) (k ∙ sym (length_backs yielded)))
    ∙ sym (ap (blocks_with ws) (backs_push yielded code) ∙ blocks_push ws (backs yielded) (back code.items))
