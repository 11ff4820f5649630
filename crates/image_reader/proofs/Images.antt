-- Reading undoes writing, and writing reading: of instructions, functions and images.
use Rattle.std.proofs.Common.{◌≡◌, ◌⊎◌, ℕ, Bool, true, false, cond, eqb, List, [], ◌∷◌, ◌++◌, length, Option, Some, None, Result, Ok, Err, refl, sym, ap, subst, ◌∙◌, arith, inl, inr}
use Rattle.std.specs.List.{flat_map}
use Rattle.std.proofs.lemmas.Bool.{eqb-true}
use Rattle.std.proofs.lemmas.List.{append-nil}
use Rattle.std.proofs.lemmas.List.Concat.{flat_map-cons}
use Rattle.cells.specs.Pieces.{is_piece}
use Rattle.code_form.specs.declared.form.Kind.{Kind}
use Rattle.code_form.specs.Form as form
use Rattle.code_form.specs.Form.{Instruction, Image}
use Rattle.instruction_table.specs.declared.fault.ImageFault.{ImageFault}
use Rattle.instruction_table.specs.declared.fault.ImageFault.TheVariants.{BadOperand, Magic, Version}
use Rattle.instruction_table.specs.declared.name.Name.{Name}
use Rattle.instruction_table.specs.declared.operand.Operand.{Operand}
use Rattle.instruction_table.specs.declared.operand.Operand.TheVariants.{Register, OptionalRegister, Scope, Block, Function, Layout, TextNumber, Number, Integer, Truth, Character, Registers}
use Rattle.instruction_table.specs.Table.{Values, cases_of, code_of, coded, made, name_with}
use Rattle.instruction_table.proofs.Tables.{each_is_found, each_is_made, found_has_code, made_of_these}
use Rattle.image_bytes.specs.Bytes.{block_bytes, body_bytes, fact_bytes, first_bytes, function_bytes, half, image_bytes, instruction_bytes, kind_bytes, layout_bytes, list_bytes, magic_bytes, result_bytes, text_bytes, value_bytes, values_bytes, word}
use Rattle.image_bytes.specs.Encodable.{AreFew, BlockFits, BodyFits, CellFits, FactFits, FunctionFits, InstructionFits, IsByte, IsImage, IsLetter, IsWord, KindFits, LayoutFits, ResultFits, TextFits, ValueFits, ValuesFit}
use Rattle.image_reader.specs.Laws.{IsBytes, OneImage, ReadWasWritten, WrittenIsRead}
use Rattle.image_reader.specs.Reading.{◌>>=◌, block_at, body_at, byte_at, cell_at, cells_at, ended, fact_at, function_at, half_at, instruction_at, kind_at, layout_at, letter_at, list_at, magic, magic_at, named, number_at, pair_at, piece_at, reads, result_at, text_at, value_at, values_at}
use Rattle.image_reader.proofs.Pieces.{piece_is_small}
use Rattle.image_reader.proofs.Parts.{cell_reader, fact_reader, integer_reader, kind_reader, letter_reader, optional_reader, result_reader, truth_reader}
use Rattle.image_reader.proofs.Readers.{IsHalf, IsReader, Takes, bind_ok, byte_reader, given_reader, half_reader, list_reader, mapped_again, mapped_reader, number_reader, ok_is, pair_reader, same_reader, tested_reader}

-- ---- instructions

value_reader : (kind : Operand) → IsReader (value_at kind) (value_bytes kind) (ValueFits kind)
value_reader Register = number_reader
value_reader OptionalRegister = optional_reader
value_reader Scope = byte_reader
value_reader Block = number_reader
value_reader Function = number_reader
value_reader Layout = number_reader
value_reader TextNumber = number_reader
value_reader Number = number_reader
value_reader Integer = integer_reader
value_reader Truth = truth_reader
value_reader Character = letter_reader
value_reader Registers = list_reader number_at word IsWord number_reader

values_reader : (kinds : List Operand) → IsReader (values_at kinds) (values_bytes kinds) (ValuesFit kinds)
values_reader [] = given_reader
values_reader (c ∷ cs) = pair_reader (value_at c) (value_bytes c) (ValueFits c) (values_at cs) (values_bytes cs) (ValuesFit cs) (value_reader c) (values_reader cs)

named_takes : (found : Option Name) (code : ℕ) → name_with code ≡ found → (bytes : List ℕ) (x : Instruction × List ℕ) → IsBytes bytes → named found bytes ≡ Ok x → Takes (code ∷ bytes) (instruction_bytes x.0) x.1 × InstructionFits x.0
named_takes None code h bytes x fits e = absurd cc
named_takes (Some name) code h bytes x fits e =
    let b = bind_ok (values_at (cases_of name) bytes) (λ v. Ok (made name v.0, v.1)) x e in
    let u = (values_reader (cases_of name)).takes bytes b.0 fits b.1 in
    let has : code_of name ≡ code = found_has_code code name h in
    let parts : code ∷ bytes ≡ (code_of name ∷ values_bytes (cases_of name) b.0.0) ++ b.0.1 = ap (λ (c : ℕ). c ∷ bytes) (sym has) ∙ ap (λ (bs : List ℕ). code_of name ∷ bs) u.0.parts in
    let P : ((n : Name) × Values (cases_of n)) → Type 0 = λ p. Takes (code ∷ bytes) (code_of p.0 ∷ values_bytes (cases_of p.0) p.1) b.0.1 × ValuesFit (cases_of p.0) p.1 in
    let moved : P (coded (made name b.0.0)) = subst P (sym (made_of_these name b.0.0)) (record { parts = parts; rest_fits = u.0.rest_fits }, u.1) in
    subst (λ (y : Instruction × List ℕ). Takes (code ∷ bytes) (instruction_bytes y.0) y.1 × InstructionFits y.0) (ok_is (made name b.0.0, b.0.1) x b.2) moved

instruction_takes : (bytes : List ℕ) (x : Instruction × List ℕ) → IsBytes bytes → instruction_at bytes ≡ Ok x → Takes bytes (instruction_bytes x.0) x.1 × InstructionFits x.0
unfolding instruction_at
instruction_takes bytes x fits e =
    let a = bind_ok (byte_at bytes) (λ code. named (name_with code.0) code.1) x e in
    let t = byte_reader.takes bytes a.0 fits a.1 in
    let u = named_takes (name_with a.0.0) a.0.0 refl a.0.1 x t.0.rest_fits a.2 in
    (record { parts = t.0.parts ∙ u.0.parts; rest_fits = u.0.rest_fits }, u.1)

instruction_again : (i : Instruction) (rest : List ℕ) → InstructionFits i → instruction_at (instruction_bytes i ++ rest) ≡ Ok (i, rest)
unfolding instruction_at byte_at
instruction_again i rest fits =
    let name = (coded i).0 in
    let v = (coded i).1 in
    let behind : List ℕ = values_bytes (cases_of (coded i).0) (coded i).1 ++ rest in
    ap (λ (found : Option Name). named found behind) (each_is_found (coded i).0)
    ∙ mapped_again (values_at (cases_of (coded i).0)) (values_bytes (cases_of (coded i).0)) (ValuesFit (cases_of (coded i).0)) (made (coded i).0) (values_reader (cases_of (coded i).0)) (coded i).1 rest fits
    ∙ ap (λ (j : Instruction). Ok (j, rest)) (each_is_made i)

instruction_reader : IsReader instruction_at instruction_bytes InstructionFits
instruction_reader = record { takes = instruction_takes; again = instruction_again }

-- ---- functions

block_reader : IsReader block_at block_bytes BlockFits
unfolding block_at
block_reader = mapped_reader (pair_at (list_at fact_at) (list_at instruction_at)) (λ x. list_bytes fact_bytes x.0 ++ list_bytes instruction_bytes x.1) (λ x. AreFew FactFits x.0 × AreFew InstructionFits x.1) BlockFits
    (λ x. record { facts = x.0; code = x.1 }) (λ b. (b.facts, b.code)) (λ x fits. (refl, fits)) (λ b fits. (refl, fits))
    (pair_reader (list_at fact_at) (list_bytes fact_bytes) (AreFew FactFits) (list_at instruction_at) (list_bytes instruction_bytes) (AreFew InstructionFits)
    (list_reader fact_at fact_bytes FactFits fact_reader) (list_reader instruction_at instruction_bytes InstructionFits instruction_reader))

-- the parts of a function, one behind the other
abbrev Whole : Type 0
Whole = Option Kind × (ℕ × (List Kind × (ℕ × List form.Block)))

abbrev whole_bytes : Whole → List ℕ
whole_bytes x = result_bytes x.0 ++ (word x.1.0 ++ (list_bytes kind_bytes x.1.1.0 ++ (x.1.1.1.0 ∷ list_bytes block_bytes x.1.1.1.1)))

abbrev WholeFits : Whole → Type 0
WholeFits x = ResultFits x.0 × (IsWord x.1.0 × (AreFew KindFits x.1.1.0 × (IsByte x.1.1.1.0 × AreFew BlockFits x.1.1.1.1)))

whole_reader : IsReader (pair_at result_at (pair_at number_at (pair_at (list_at kind_at) (pair_at byte_at (list_at block_at))))) whole_bytes WholeFits
whole_reader =
    let blocks = pair_reader byte_at (λ b. b ∷ []) IsByte (list_at block_at) (list_bytes block_bytes) (AreFew BlockFits) byte_reader (list_reader block_at block_bytes BlockFits block_reader) in
    let kinds = pair_reader (list_at kind_at) (list_bytes kind_bytes) (AreFew KindFits) (pair_at byte_at (list_at block_at)) (λ x. x.0 ∷ list_bytes block_bytes x.1) (λ x. IsByte x.0 × AreFew BlockFits x.1) (list_reader kind_at kind_bytes KindFits kind_reader) blocks in
    let parameters = pair_reader number_at word IsWord (pair_at (list_at kind_at) (pair_at byte_at (list_at block_at))) (λ x. list_bytes kind_bytes x.0 ++ (x.1.0 ∷ list_bytes block_bytes x.1.1)) (λ x. AreFew KindFits x.0 × (IsByte x.1.0 × AreFew BlockFits x.1.1)) number_reader kinds in
    pair_reader result_at result_bytes ResultFits (pair_at number_at (pair_at (list_at kind_at) (pair_at byte_at (list_at block_at)))) (λ x. word x.0 ++ (list_bytes kind_bytes x.1.0 ++ (x.1.1.0 ∷ list_bytes block_bytes x.1.1.1)))
    (λ x. IsWord x.0 × (AreFew KindFits x.1.0 × (IsByte x.1.1.0 × AreFew BlockFits x.1.1.1))) result_reader parameters

function_reader : IsReader function_at function_bytes FunctionFits
unfolding function_at
function_reader = mapped_reader (pair_at result_at (pair_at number_at (pair_at (list_at kind_at) (pair_at byte_at (list_at block_at))))) whole_bytes WholeFits FunctionFits
    (λ x. record { result = x.0; parameters = x.1.0; kinds = x.1.1.0; scopes = x.1.1.1.0; blocks = x.1.1.1.1 }) (λ g. (g.result, (g.parameters, (g.kinds, (g.scopes, g.blocks)))))
    (λ x fits. (refl, fits)) (λ g fits. (refl, fits)) whole_reader

-- ---- images

singles : (t : List ℕ) → flat_map (λ (c : ℕ). c ∷ []) t ≡ t
singles [] = refl
singles (c ∷ t) = flat_map-cons (λ (b : ℕ). b ∷ []) c t ∙ ap (λ (bs : List ℕ). c ∷ bs) (singles t)

text_reader : IsReader text_at text_bytes TextFits
unfolding text_at
text_reader = same_reader (list_at letter_at) (list_bytes (λ (c : ℕ). c ∷ [])) text_bytes TextFits (λ t. ap (λ (bs : List ℕ). word (length t) ++ bs) (singles t)) (list_reader letter_at (λ (c : ℕ). c ∷ []) IsLetter letter_reader)

layout_reader : IsReader layout_at layout_bytes LayoutFits
unfolding layout_at
layout_reader = list_reader cell_at kind_bytes CellFits cell_reader

body_reader : (n : ℕ) → IsReader (body_at n) body_bytes (λ C. (C.piece ≡ n) × BodyFits C)
unfolding body_at
body_reader n =
    let last = pair_reader (list_at layout_at) (list_bytes layout_bytes) (AreFew LayoutFits) (list_at function_at) (list_bytes function_bytes) (AreFew FunctionFits) (list_reader layout_at layout_bytes LayoutFits layout_reader) (list_reader function_at function_bytes FunctionFits function_reader) in
    mapped_reader (pair_at (list_at text_at) (pair_at (list_at layout_at) (list_at function_at))) (λ x. list_bytes text_bytes x.0 ++ (list_bytes layout_bytes x.1.0 ++ list_bytes function_bytes x.1.1)) (λ x. AreFew TextFits x.0 × (AreFew LayoutFits x.1.0 × AreFew FunctionFits x.1.1)) (λ C. (C.piece ≡ n) × BodyFits C)
    (λ x. record { piece = n; head = record { texts = x.0; layouts = x.1.0 }; functions = x.1.1 }) (λ C. (C.head.texts, (C.head.layouts, C.functions)))
    (λ x fits. (refl, (refl, fits))) (λ C fits. (ap (λ (k : ℕ). record { piece = k; head = C.head; functions = C.functions }) (sym fits.0), fits.1))
    (pair_reader (list_at text_at) (list_bytes text_bytes) (AreFew TextFits) (pair_at (list_at layout_at) (list_at function_at)) (λ x. list_bytes layout_bytes x.0 ++ list_bytes function_bytes x.1) (λ x. AreFew LayoutFits x.0 × AreFew FunctionFits x.1) (list_reader text_at text_bytes TextFits text_reader) last)

magic_reader : IsReader magic_at word (λ n. n ≡ magic)
unfolding magic_at
magic_reader = tested_reader number_at word IsWord (λ n. n ≡ magic) (λ n. eqb n magic) Magic (λ n e. eqb-true n magic e) (λ n h. (rw h refl, omega (arith, h))) number_reader

cells_reader : IsReader cells_at half (λ n. is_piece n ≡ true)
unfolding cells_at
cells_reader = tested_reader half_at half IsHalf (λ n. is_piece n ≡ true) is_piece BadOperand (λ n e. e) (λ n h. (h, piece_is_small n h)) half_reader

-- where pieces have so many cells, these bytes tell it, by this version
abbrev Tells : (version : ℕ) → List ℕ → ℕ × List ℕ → Type 0
Tells v bytes x = ((v ≡ 1) × ((x.0 ≡ 64) × (bytes ≡ x.1))) ⊎ ((v ≡ 2) × (bytes ≡ half x.0 ++ x.1))

piece_takes : (v : ℕ) (bytes : List ℕ) (x : ℕ × List ℕ) → IsBytes bytes → piece_at v bytes ≡ Ok x → Tells v bytes x × ((is_piece x.0 ≡ true) × IsBytes x.1)
unfolding piece_at
piece_takes v bytes x fits e = by_version (eqb v 1) (eqb v 2) refl refl e
  where
    by_version : (first second : Bool) → eqb v 1 ≡ first → eqb v 2 ≡ second → cond first (Ok (64, bytes)) (cond second (cells_at bytes) (Err Version)) ≡ Ok x → Tells v bytes x × ((is_piece x.0 ≡ true) × IsBytes x.1)
    by_version true second is other e =
        subst (λ (y : ℕ × List ℕ). Tells v bytes y × ((is_piece y.0 ≡ true) × IsBytes y.1)) (ok_is (64, bytes) x e) (inl (eqb-true v 1 is, (refl, refl)), (refl, fits))
    by_version false true is other e = let t = cells_reader.takes bytes x fits e in (inr (eqb-true v 2 other, t.0.parts), (t.1, t.0.rest_fits))
    by_version false false is other e = absurd cc

-- nothing stood behind the image
ended_ok : (C D : Image) (rest : List ℕ) → ended C rest ≡ Ok D → (C ≡ D) × (rest ≡ [])
ended_ok C D [] e = (ok_is C D e, refl)
ended_ok C D (b ∷ rest) e = absurd cc

-- the bytes are those of the image, in the version that was found
in_version : (bytes behind rest : List ℕ) (v : ℕ) (D : Image) → bytes ≡ magic_bytes ++ (half v ++ behind) → rest ≡ body_bytes D → Tells v behind (D.piece, rest) → (bytes ≡ image_bytes D) ⊎ ((D.piece ≡ 64) × (bytes ≡ first_bytes D))
in_version bytes behind rest v D whole body (inl first) =
    inr (first.1.0, whole ∙ ap (λ (w : ℕ). magic_bytes ++ (half w ++ behind)) first.0 ∙ ap (λ (bs : List ℕ). magic_bytes ++ (1 ∷ 0 ∷ bs)) (first.1.1 ∙ body))
in_version bytes behind rest v D whole body (inr second) =
    inl (whole ∙ ap (λ (w : ℕ). magic_bytes ++ (half w ++ behind)) second.0 ∙ ap (λ (bs : List ℕ). magic_bytes ++ (2 ∷ 0 ∷ bs)) (second.1 ∙ ap (λ (bs : List ℕ). half D.piece ++ bs) body))

-- the letters, and a version behind them
letters_and : (bytes rest behind : List ℕ) (letters v : ℕ) → bytes ≡ word letters ++ rest → letters ≡ magic → rest ≡ half v ++ behind → bytes ≡ magic_bytes ++ (half v ++ behind)
letters_and bytes rest behind letters v first is second = first ∙ ap (λ (k : ℕ). word k ++ rest) is ∙ ap (λ (bs : List ℕ). word magic ++ bs) second

-- a body, with nothing behind it
whole_body : (rest behind : List ℕ) (C D : Image) → rest ≡ body_bytes C ++ behind → behind ≡ [] → C ≡ D → rest ≡ body_bytes D
whole_body rest behind C D is none same = is ∙ ap (λ (bs : List ℕ). body_bytes C ++ bs) none ∙ append-nil (body_bytes C) ∙ ap body_bytes same

-- how many cells a piece of it has
same_cells : (n : ℕ) (C D : Image) → C.piece ≡ n → C ≡ D → n ≡ D.piece
same_cells n C D is same = sym is ∙ ap (λ (X : Image). X.piece) same

pub read_was_written : ReadWasWritten
unfolding reads
read_was_written bytes D fits e =
    let m = bind_ok (magic_at bytes) (λ m. half_at m.1 >>= λ v. piece_at v.0 v.1 >>= λ n. body_at n.0 n.1 >>= λ C. ended C.0 C.1) D e in
    let v = bind_ok (half_at m.0.1) (λ v. piece_at v.0 v.1 >>= λ n. body_at n.0 n.1 >>= λ C. ended C.0 C.1) D m.2 in
    let n = bind_ok (piece_at v.0.0 v.0.1) (λ n. body_at n.0 n.1 >>= λ C. ended C.0 C.1) D v.2 in
    let b = bind_ok (body_at n.0.0 n.0.1) (λ C. ended C.0 C.1) D n.2 in
    let end = ended_ok b.0.0 D b.0.1 b.2 in
    let one = magic_reader.takes bytes m.0 fits m.1 in
    let two = half_reader.takes m.0.1 v.0 one.0.rest_fits v.1 in
    let three = piece_takes v.0.0 v.0.1 n.0 two.0.rest_fits n.1 in
    let four = (body_reader n.0.0).takes n.0.1 b.0 three.1.1 b.1 in
    let whole = letters_and bytes m.0.1 v.0.1 m.0.0 v.0.0 one.0.parts one.1 two.0.parts in
    let body = whole_body n.0.1 b.0.1 b.0.0 D four.0.parts end.1 end.0 in
    let cells = same_cells n.0.0 b.0.0 D four.1.0 end.0 in
    let told : Tells v.0.0 v.0.1 (D.piece, n.0.1) = subst (λ (k : ℕ). Tells v.0.0 v.0.1 (k, n.0.1)) cells three.0 in
    ((subst (λ (k : ℕ). is_piece k ≡ true) cells three.1.0, subst BodyFits end.0 four.1.1), in_version bytes v.0.1 n.0.1 v.0.0 D whole body told)

-- a body is read behind its header
body_is_read : (C : Image) → BodyFits C → (body_at C.piece (body_bytes C) >>= λ D. ended D.0 D.1) ≡ Ok C
body_is_read C fits =
    let body : body_at C.piece (body_bytes C) ≡ Ok (C, []) = ap (body_at C.piece) (sym (append-nil (body_bytes C))) ∙ (body_reader C.piece).again C [] (refl, fits) in
    ap (λ (read : Result (Image × List ℕ) ImageFault). read >>= λ D. ended D.0 D.1) body

-- what stands behind the letters and a version is read by it
behind_version : (v : ℕ) (behind : List ℕ) → IsHalf v → reads (magic_bytes ++ (half v ++ behind)) ≡ (piece_at v behind >>= λ n. body_at n.0 n.1 >>= λ C. ended C.0 C.1)
unfolding reads
behind_version v behind small =
    ap (λ (read : Result (ℕ × List ℕ) ImageFault). read >>= λ m. half_at m.1 >>= λ v. piece_at v.0 v.1 >>= λ n. body_at n.0 n.1 >>= λ C. ended C.0 C.1) (magic_reader.again magic (half v ++ behind) refl)
    ∙ ap (λ (read : Result (ℕ × List ℕ) ImageFault). read >>= λ v. piece_at v.0 v.1 >>= λ n. body_at n.0 n.1 >>= λ C. ended C.0 C.1) (half_reader.again v behind small)

pub written_is_read : WrittenIsRead
unfolding piece_at
written_is_read C fits =
    behind_version 2 (half C.piece ++ body_bytes C) (omega arith)
    ∙ ap (λ (read : Result (ℕ × List ℕ) ImageFault). read >>= λ n. body_at n.0 n.1 >>= λ D. ended D.0 D.1) (cells_reader.again C.piece (body_bytes C) fits.0)
    ∙ body_is_read C fits.1

-- so are the bytes of version 1
first_is_read : (C : Image) → BodyFits C → C.piece ≡ 64 → reads (first_bytes C) ≡ Ok C
unfolding piece_at
first_is_read C fits is =
    behind_version 1 (body_bytes C) (omega arith)
    ∙ ap (λ (n : ℕ). body_at n (body_bytes C) >>= λ D. ended D.0 D.1) (sym is)
    ∙ body_is_read C fits

-- bytes that are those of an image are read as it
pub is_read : (bytes : List ℕ) (C : Image) → IsImage bytes C → reads bytes ≡ Ok C
is_read bytes C is =
    elim is.1 [
      | inl second ↦ ap reads second ∙ written_is_read C is.0
      | inr first ↦ ap reads first.1 ∙ first_is_read C is.0.1 first.0
    ]

abbrev done : Image → Result Image ImageFault
done C = Ok C

same_image : (C D : Image) → done C ≡ done D → C ≡ D
same_image C D e = cc

pub one_image : OneImage
one_image bytes C D first second = same_image C D (sym (is_read bytes C first) ∙ is_read bytes D second)
