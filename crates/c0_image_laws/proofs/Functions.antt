-- Images that are verified and consistent can be written.
use Rattle.std.proofs.Common.{◌≡◌, ℕ, ◌<◌, ◌≤◌, true, List, length, arith}
use Rattle.std.specs.Prelude.{◌&&◌, All, slice_index_or}
use Rattle.std.specs.List.{list_all}
use Rattle.std.proofs.lemmas.List.Elements.{All-weaker, recursion_from_All}
use Rattle.std.proofs.lemmas.List.Sums.{AllPass-from_list_all}
use Rattle.code_form.specs.declared.form.Kind.{Kind}
use Rattle.code_form.specs.Form.{Block, Function, Image}
use Rattle.code_form.specs.Counts.{few_arguments, few_in_block, few_in_function, is_few}
use Rattle.code_form.specs.Known.{facts_known}
use Rattle.code_verification.specs.Verified.{IsVerified, NamesFact, NamesFacts}
use Rattle.code_verification.specs.WellFormed.{IsWellFormedBlock, IsWellFormedFunction}
use Rattle.image_bytes.specs.Encodable.{BlockFits, CellFits, FactFits, FunctionFits, IsByte, IsEncodable, IsLetter, IsWord, KindFits, LayoutFits, TextFits}
use Rattle.scope_verifier_laws.proofs.Firsts.{both_true}
use Rattle.scope_verifier_laws.specs.Numbers.{is_cell_kind, names_layout}
use Rattle.c0_well_formed.specs.Laws.{IsConsistent, IsConsistentFunction, NamesNumbers, TellsNumber}
use Rattle.c0_image_laws.proofs.Numbers.{HasFew, cell_fits, count_fits, has_few, kind_fits, result_fits}
use Rattle.c0_image_laws.proofs.Instructions.{code_fits, fact_fits}

module _ (C : Image) (few : HasFew C) where
  block_fits : (f : Function) → is_few f.kinds ≡ true → is_few f.blocks ≡ true → f.scopes ≤ 4 → (b : Block) → IsWellFormedBlock C f b → All NamesNumbers b.code → All TellsNumber b.facts → All (NamesFact f.kinds f.scopes) b.facts → few_in_block b ≡ true → BlockFits b
  block_fits f kinds blocks scopes b formed numbers told named short =
      let facts = both_true (is_few b.facts) (is_few b.code && list_all few_arguments b.code) short in
      let code = both_true (is_few b.code) (list_all few_arguments b.code) facts.1 in (
        (count_fits b.facts facts.0, recursion_from_All FactFits b.facts (λ i d l. fact_fits C f few kinds blocks scopes (slice_index_or b.facts i d) (named i d l) (told i d l))),
        (count_fits b.code code.0, code_fits C f few kinds blocks scopes b.code (facts_known b.facts) formed (recursion_from_All NamesNumbers b.code numbers) code.1),
      )

  function_fits : (f : Function) → IsWellFormedFunction C f → IsConsistentFunction (length C.head.layouts) f → NamesFacts f → few_in_function f ≡ true → FunctionFits f
  function_fits f formed consistent named short =
      let kinds = both_true (is_few f.kinds) (is_few f.blocks && list_all few_in_block f.blocks) short in
      let blocks = both_true (is_few f.blocks) (list_all few_in_block f.blocks) kinds.1 in
      let count : IsWord (length C.head.layouts) = count_fits C.head.layouts few.layouts in
      let registers : length f.kinds < 4294967296 = count_fits f.kinds kinds.0 in
      let first : f.parameters ≤ length f.kinds = formed.parameters in
      let own : IsWord f.parameters = omega (arith, registers, first) in
      let four : f.scopes ≤ 4 = consistent.scopes in
      let byte : IsByte f.scopes = omega (arith, four) in
      let each = AllPass-from_list_all few_in_block f.blocks blocks.1 in (
        result_fits (length C.head.layouts) count f.result consistent.result,
        (
          own,
          (
            (registers, recursion_from_All KindFits f.kinds (All-weaker (λ k. names_layout (length C.head.layouts) k ≡ true) KindFits (kind_fits (length C.head.layouts) count) f.kinds consistent.kinds)),
            (byte, (count_fits f.blocks blocks.0, recursion_from_All BlockFits f.blocks (λ i d l. block_fits f kinds.0 blocks.0 four (slice_index_or f.blocks i d) (formed.blocks i d l) (consistent.numbers i d l) (consistent.told i d l) (named i d l) (each i d l)))),
          ),
        ),
      )

  text_fits : (t : List ℕ) → is_few t ≡ true → All (λ b. b < 128) t → TextFits t
  text_fits t short h = (count_fits t short, recursion_from_All IsLetter t h)

  layout_fits : (cs : List Kind) → is_few cs ≡ true → All (λ k. is_cell_kind (length C.head.layouts) k ≡ true) cs → LayoutFits cs
  layout_fits cs short h =
      let count : IsWord (length C.head.layouts) = count_fits C.head.layouts few.layouts in
      (count_fits cs short, recursion_from_All CellFits cs (All-weaker (λ k. is_cell_kind (length C.head.layouts) k ≡ true) CellFits (cell_fits (length C.head.layouts) count) cs h))

pub image_fits : (C : Image) → IsVerified C → IsConsistent C → IsEncodable C
image_fits C verified consistent =
    let few : HasFew C = has_few C consistent.few in
    let texts = AllPass-from_list_all is_few C.head.texts few.each_text in
    let layouts = AllPass-from_list_all is_few C.head.layouts few.each_layout in
    let functions = AllPass-from_list_all few_in_function C.functions few.each_function in (
      consistent.pieces,
      (
        (count_fits C.head.texts few.texts, recursion_from_All TextFits C.head.texts (λ i d l. text_fits C few (slice_index_or C.head.texts i d) (texts i d l) (consistent.texts i d l))),
        (
          (count_fits C.head.layouts few.layouts, recursion_from_All LayoutFits C.head.layouts (λ i d l. layout_fits C few (slice_index_or C.head.layouts i d) (layouts i d l) (consistent.layouts i d l))),
          (
            count_fits C.functions few.functions,
            recursion_from_All FunctionFits C.functions (λ i d l. function_fits C few (slice_index_or C.functions i d) (verified.formed.functions i d l) (consistent.functions i d l) (verified.facts i d l) (functions i d l)),
          ),
        ),
      ),
    )
