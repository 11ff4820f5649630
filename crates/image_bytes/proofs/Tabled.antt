-- The bytes of an instruction are those of its parts.
use Rattle.std.proofs.Common.{◌≡◌, ℕ, List, ◌∷◌, ◌++◌, take, Option, Some, None, refl, sym, ap, ◌∙◌}
use Rattle.std.proofs.lemmas.List.{append-nil}
use Rattle.std.specs.Borrow.{Bor}
use Rattle.std.specs.Prelude.{option_map}
use Rattle.std.specs.List.{flat_map}
use Rattle.code_form.specs.declared.form.Operation.TheVariants as p
use Rattle.code_form.specs.Form as form
use Rattle.code_form.specs.Form.{Instruction}
use Rattle.instruction_table.specs.declared.name.Name.{Name}
use Rattle.instruction_table.specs.declared.parts.Argument.{Argument}
use Rattle.instruction_table.specs.declared.parts.Parts.{Parts}
use Rattle.instruction_table.specs.Arguments.{arguments_of, name_of, registers_of}
use Rattle.instruction_table.specs.Table.{code_of}
use Rattle.image_bytes.specs.Bytes.{instruction_bytes, list_bytes, optional_bytes, word}
use Rattle.image_bytes.specs.Parts.{argument_bytes, parts_bytes, registers_bytes}

by_parts : (i : Instruction) → code_of (name_of i) ∷ (flat_map argument_bytes (arguments_of i) ++ registers_bytes (registers_of i)) ≡ instruction_bytes i
by_parts (form.Simple (p.Const a b)) = refl
by_parts (form.Simple (p.TextOf a b)) = refl
by_parts (form.Simple (p.BoolOf a b)) = refl
by_parts (form.Simple (p.CharOf a b)) = refl
by_parts (form.Simple (p.Null a)) = refl
by_parts (form.Simple (p.Move a b)) = refl
by_parts (form.Simple (p.Binary a b c d)) = refl
by_parts (form.Simple (p.Unary a b c)) = refl
by_parts (form.Simple (p.Compare a b c d)) = refl
by_parts (form.Simple (p.CheckNull a)) = refl
by_parts (form.Simple (p.CheckIndex a b c d)) = refl
by_parts (form.Simple (p.Len a b)) = refl
by_parts (form.Simple (p.Prefetch a None c)) = refl
by_parts (form.Simple (p.Prefetch a (Some b) c)) = refl
by_parts (form.Simple (p.Alloc a b)) = refl
by_parts (form.Simple (p.AllocArray a b c)) = refl
by_parts (form.Simple (p.Print a)) = refl
by_parts (form.Simple (p.Println a)) = refl
by_parts (form.Simple (p.Printint a)) = refl
by_parts (form.Simple (p.Printbool a)) = refl
by_parts (form.Simple (p.Printchar a)) = refl
by_parts (form.Simple p.Flush) = refl
by_parts (form.Simple (p.Assert a)) = refl
by_parts (form.Aim a b None d) = refl
by_parts (form.Aim a b (Some c) d) = refl
by_parts (form.Load a b) = refl
by_parts (form.Store a b) = refl
by_parts (form.Leave a) = refl
by_parts (form.Jump a) = refl
by_parts (form.Branch a b c) = refl
by_parts (form.Return a) = refl
by_parts form.ReturnVoid = refl
by_parts (form.Error a) = refl
by_parts (form.Call None f rs) = ap (λ (bs : List ℕ). 80 ∷ (optional_bytes None ++ (word f ++ bs))) (sym (append-nil (list_bytes word rs)))
by_parts (form.Call (Some r) f rs) = ap (λ (bs : List ℕ). 80 ∷ (optional_bytes (Some r) ++ (word f ++ bs))) (sym (append-nil (list_bytes word rs)))

pub parts_are : (p : Parts) (i : Instruction) → p.name ≡ name_of i → take p.count p.arguments ≡ arguments_of i → option_map (λ (b : Bor (List ℕ)). b.now) p.registers ≡ registers_of i → parts_bytes p ≡ instruction_bytes i
parts_are p i named given listed =
    ap (λ (name : Name). code_of name ∷ (flat_map argument_bytes (take p.count p.arguments) ++ registers_bytes (option_map (λ (b : Bor (List ℕ)). b.now) p.registers))) named
    ∙ ap (λ (arguments : List Argument). code_of (name_of i) ∷ (flat_map argument_bytes arguments ++ registers_bytes (option_map (λ (b : Bor (List ℕ)). b.now) p.registers))) given
    ∙ ap (λ (registers : Option (List ℕ)). code_of (name_of i) ∷ (flat_map argument_bytes (arguments_of i) ++ registers_bytes registers)) listed
    ∙ by_parts i
