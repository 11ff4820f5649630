-- The text of an instruction is that of its parts.
use Rattle.std.proofs.Common.{◌≡◌, ℕ, List, [], ◌∷◌, ◌++◌, map, take, Option, Some, None, sym, ap, ◌∙◌, append_assoc}
use Rattle.std.proofs.lemmas.List.{append-nil}
use Rattle.std.proofs.lemmas.List.Folds.{flat_map-map}
use Rattle.std.specs.Borrow.{Bor}
use Rattle.std.specs.Prelude.{codes, decimal, option_map}
use Rattle.std.specs.List.{flat_map}
use Rattle.code_form.specs.declared.form.Operation.TheVariants as p
use Rattle.code_form.specs.Form as form
use Rattle.code_form.specs.Form.{Instruction}
use Rattle.instruction_table.specs.declared.name.Name.{Name}
use Rattle.instruction_table.specs.declared.parts.Argument.{Argument}
use Rattle.instruction_table.specs.declared.parts.Parts.{Parts}
use Rattle.instruction_table.specs.Arguments.{arguments_of, name_of, registers_of}
use Rattle.instruction_table.specs.Table.{word_of}
use Rattle.image_listing.specs.Listing.{behind_comma, instruction_text, register_text, separated}
use Rattle.image_listing.specs.Parts.{arguments_text, later_register, parts_text, registers_text}

-- operands, and a list behind them
abbrev tail_text : Instruction → List ℕ
tail_text i = arguments_text (arguments_of i) ++ registers_text (registers_of i)

-- the registers of a call behind its other operands
call_texts : (to f : List ℕ) (rs : List ℕ) → (codes " " ++ (to ++ (behind_comma f ++ []))) ++ flat_map later_register rs ≡ separated (to ∷ f ∷ (map register_text rs ++ []))
call_texts to f rs =
    let same : flat_map later_register rs ≡ flat_map behind_comma (map register_text rs ++ []) = sym (flat_map-map behind_comma register_text rs) ∙ ap (flat_map behind_comma) (sym (append-nil (map register_text rs))) in
    ap (λ (text : List ℕ). 32 ∷ text) (append_assoc to (behind_comma f ++ []) (flat_map later_register rs)
    ∙ ap (λ (text : List ℕ). to ++ text) (ap (λ (text : List ℕ). text ++ flat_map later_register rs) (append-nil (behind_comma f)) ∙ ap (λ (text : List ℕ). behind_comma f ++ text) same))

by_parts : (i : Instruction) → word_of (name_of i) ++ tail_text i ≡ instruction_text i
by_parts (form.Simple (p.Const a b)) = ap (λ (text : List ℕ). word_of (name_of (form.Simple (p.Const a b))) ++ text) (append-nil (arguments_text (arguments_of (form.Simple (p.Const a b)))))
by_parts (form.Simple (p.TextOf a b)) = ap (λ (text : List ℕ). word_of (name_of (form.Simple (p.TextOf a b))) ++ text) (append-nil (arguments_text (arguments_of (form.Simple (p.TextOf a b)))))
by_parts (form.Simple (p.BoolOf a b)) = ap (λ (text : List ℕ). word_of (name_of (form.Simple (p.BoolOf a b))) ++ text) (append-nil (arguments_text (arguments_of (form.Simple (p.BoolOf a b)))))
by_parts (form.Simple (p.CharOf a b)) = ap (λ (text : List ℕ). word_of (name_of (form.Simple (p.CharOf a b))) ++ text) (append-nil (arguments_text (arguments_of (form.Simple (p.CharOf a b)))))
by_parts (form.Simple (p.Null a)) = ap (λ (text : List ℕ). word_of (name_of (form.Simple (p.Null a))) ++ text) (append-nil (arguments_text (arguments_of (form.Simple (p.Null a)))))
by_parts (form.Simple (p.Move a b)) = ap (λ (text : List ℕ). word_of (name_of (form.Simple (p.Move a b))) ++ text) (append-nil (arguments_text (arguments_of (form.Simple (p.Move a b)))))
by_parts (form.Simple (p.Binary a b c d)) = ap (λ (text : List ℕ). word_of (name_of (form.Simple (p.Binary a b c d))) ++ text) (append-nil (arguments_text (arguments_of (form.Simple (p.Binary a b c d)))))
by_parts (form.Simple (p.Unary a b c)) = ap (λ (text : List ℕ). word_of (name_of (form.Simple (p.Unary a b c))) ++ text) (append-nil (arguments_text (arguments_of (form.Simple (p.Unary a b c)))))
by_parts (form.Simple (p.Compare a b c d)) = ap (λ (text : List ℕ). word_of (name_of (form.Simple (p.Compare a b c d))) ++ text) (append-nil (arguments_text (arguments_of (form.Simple (p.Compare a b c d)))))
by_parts (form.Simple (p.CheckNull a)) = ap (λ (text : List ℕ). word_of (name_of (form.Simple (p.CheckNull a))) ++ text) (append-nil (arguments_text (arguments_of (form.Simple (p.CheckNull a)))))
by_parts (form.Simple (p.CheckIndex a b c d)) = ap (λ (text : List ℕ). word_of (name_of (form.Simple (p.CheckIndex a b c d))) ++ text) (append-nil (arguments_text (arguments_of (form.Simple (p.CheckIndex a b c d)))))
by_parts (form.Simple (p.Len a b)) = ap (λ (text : List ℕ). word_of (name_of (form.Simple (p.Len a b))) ++ text) (append-nil (arguments_text (arguments_of (form.Simple (p.Len a b)))))
by_parts (form.Simple (p.Prefetch a None c)) = ap (λ (text : List ℕ). word_of (name_of (form.Simple (p.Prefetch a None c))) ++ text) (append-nil (arguments_text (arguments_of (form.Simple (p.Prefetch a None c)))))
by_parts (form.Simple (p.Prefetch a (Some b) c)) = ap (λ (text : List ℕ). word_of (name_of (form.Simple (p.Prefetch a (Some b) c))) ++ text) (append-nil (arguments_text (arguments_of (form.Simple (p.Prefetch a (Some b) c)))))
by_parts (form.Simple (p.Alloc a b)) = ap (λ (text : List ℕ). word_of (name_of (form.Simple (p.Alloc a b))) ++ text) (append-nil (arguments_text (arguments_of (form.Simple (p.Alloc a b)))))
by_parts (form.Simple (p.AllocArray a b c)) = ap (λ (text : List ℕ). word_of (name_of (form.Simple (p.AllocArray a b c))) ++ text) (append-nil (arguments_text (arguments_of (form.Simple (p.AllocArray a b c)))))
by_parts (form.Simple (p.Print a)) = ap (λ (text : List ℕ). word_of (name_of (form.Simple (p.Print a))) ++ text) (append-nil (arguments_text (arguments_of (form.Simple (p.Print a)))))
by_parts (form.Simple (p.Println a)) = ap (λ (text : List ℕ). word_of (name_of (form.Simple (p.Println a))) ++ text) (append-nil (arguments_text (arguments_of (form.Simple (p.Println a)))))
by_parts (form.Simple (p.Printint a)) = ap (λ (text : List ℕ). word_of (name_of (form.Simple (p.Printint a))) ++ text) (append-nil (arguments_text (arguments_of (form.Simple (p.Printint a)))))
by_parts (form.Simple (p.Printbool a)) = ap (λ (text : List ℕ). word_of (name_of (form.Simple (p.Printbool a))) ++ text) (append-nil (arguments_text (arguments_of (form.Simple (p.Printbool a)))))
by_parts (form.Simple (p.Printchar a)) = ap (λ (text : List ℕ). word_of (name_of (form.Simple (p.Printchar a))) ++ text) (append-nil (arguments_text (arguments_of (form.Simple (p.Printchar a)))))
by_parts (form.Simple p.Flush) = ap (λ (text : List ℕ). word_of (name_of (form.Simple p.Flush)) ++ text) (append-nil (arguments_text (arguments_of (form.Simple p.Flush))))
by_parts (form.Simple (p.Assert a)) = ap (λ (text : List ℕ). word_of (name_of (form.Simple (p.Assert a))) ++ text) (append-nil (arguments_text (arguments_of (form.Simple (p.Assert a)))))
by_parts (form.Aim a b None d) = ap (λ (text : List ℕ). word_of (name_of (form.Aim a b None d)) ++ text) (append-nil (arguments_text (arguments_of (form.Aim a b None d))))
by_parts (form.Aim a b (Some c) d) = ap (λ (text : List ℕ). word_of (name_of (form.Aim a b (Some c) d)) ++ text) (append-nil (arguments_text (arguments_of (form.Aim a b (Some c) d))))
by_parts (form.Load a b) = ap (λ (text : List ℕ). word_of (name_of (form.Load a b)) ++ text) (append-nil (arguments_text (arguments_of (form.Load a b))))
by_parts (form.Store a b) = ap (λ (text : List ℕ). word_of (name_of (form.Store a b)) ++ text) (append-nil (arguments_text (arguments_of (form.Store a b))))
by_parts (form.Leave a) = ap (λ (text : List ℕ). word_of (name_of (form.Leave a)) ++ text) (append-nil (arguments_text (arguments_of (form.Leave a))))
by_parts (form.Jump a) = ap (λ (text : List ℕ). word_of (name_of (form.Jump a)) ++ text) (append-nil (arguments_text (arguments_of (form.Jump a))))
by_parts (form.Branch a b c) = ap (λ (text : List ℕ). word_of (name_of (form.Branch a b c)) ++ text) (append-nil (arguments_text (arguments_of (form.Branch a b c))))
by_parts (form.Return a) = ap (λ (text : List ℕ). word_of (name_of (form.Return a)) ++ text) (append-nil (arguments_text (arguments_of (form.Return a))))
by_parts form.ReturnVoid = ap (λ (text : List ℕ). word_of (name_of form.ReturnVoid) ++ text) (append-nil (arguments_text (arguments_of form.ReturnVoid)))
by_parts (form.Error a) = ap (λ (text : List ℕ). word_of (name_of (form.Error a)) ++ text) (append-nil (arguments_text (arguments_of (form.Error a))))
by_parts (form.Call None f rs) = ap (λ (text : List ℕ). codes "call" ++ text) (call_texts (codes "-") (codes "f" ++ decimal f) rs)
by_parts (form.Call (Some r) f rs) = ap (λ (text : List ℕ). codes "call" ++ text) (call_texts (register_text r) (codes "f" ++ decimal f) rs)

pub parts_are : (p : Parts) (i : Instruction) → p.name ≡ name_of i → take p.count p.arguments ≡ arguments_of i → option_map (λ (b : Bor (List ℕ)). b.now) p.registers ≡ registers_of i → parts_text p ≡ instruction_text i
parts_are p i named given listed =
    ap (λ (name : Name). word_of name ++ (arguments_text (take p.count p.arguments) ++ registers_text (option_map (λ (b : Bor (List ℕ)). b.now) p.registers))) named
    ∙ ap (λ (arguments : List Argument). word_of (name_of i) ++ (arguments_text arguments ++ registers_text (option_map (λ (b : Bor (List ℕ)). b.now) p.registers))) given
    ∙ ap (λ (registers : Option (List ℕ)). word_of (name_of i) ++ (arguments_text (arguments_of i) ++ registers_text registers)) listed
    ∙ by_parts i
