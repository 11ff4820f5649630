-- Rows of arguments, and what calls do with them.
use Rattle.std.proofs.Common.{◌≡◌, ◌≢◌, ℕ, zero, suc, ◌+◌, ◌-◌, ◌<◌, ◌≤◌, ◌⊎◌, inl, inr, Bool, true, false, List, [], ◌∷◌, ◌++◌, length, get_or, Option, Some, None, refl, sym, ap, ◌∙◌, subst, arith, cond, append-nil}
use Rattle.std.specs.Prelude.{◌&&◌, slice_get, slice_index, slice_set, map, codes}
use Rattle.std.specs.Fmt.{signed_decimal}
use Rattle.std.proofs.lemmas.Option.{slice_get-map}
use Rattle.cells.specs.Outcomes.{Done, Stopped, Cut, then_do}
use Rattle.c0_typed.specs.Values.{Value, Number, Truth, Letter, Text, Ref, Void, Tree, as_number, as_truth, as_letter, as_text}
use Rattle.c0_typed.specs.Trees as t
use Rattle.c0_typed.specs.Trees.{Program, Ty, VoidTy, IntTy, BoolTy, CharTy, TextTy, StructTy, PointerTy, ArrayTy}
use Rattle.c0_typed.specs.Meaning.{State, Outcome, printed, struct_defaults}
use Rattle.c0_typed.specs.Typing.{AreAll, Extends, HasAll, Is, IsHeap, IsState, Kept, output_types}
use Rattle.c0_typed.specs.Views.{function_of, output_of, program_of, texts_of, type_of}
use Rattle.c0_typed.proofs.Soundness.{are_more, extends_refl}
use Rattle.c0_typed.specs.declared.tree.Output.{Output}
use Rattle.c0_typed.specs.declared.tree.Output.TheVariants as o
use Rattle.c0_typed.specs.declared.tree.ValueType.{ValueType}
use Rattle.c0_typed.specs.declared.tree.Function.{Function}
use Rattle.c0_typed.specs.declared.tree.Typed.{Typed}
use Rattle.code_form.specs.declared.form.Kind.{Kind}
use Rattle.code_form.specs.declared.form.Kind.TheVariants as kind
use Rattle.code_form.specs.declared.form.Operation.{Operation}
use Rattle.code_form.specs.declared.form.Operation.TheVariants as op
use Rattle.code_form.specs.Code.{Goes, Prints, args_fit, call_fits, has, if_zero, int_of, of_bool, op_does, op_fits, prints_text, result_fits, text_at}
use Rattle.code_form.specs.Form.{Head}
use Rattle.middle_form.specs.Form.{Code}
use Rattle.middle_form.specs.Form as f
use Rattle.middle_form.specs.Meaning as m
use Rattle.lower.specs.Coded.{Coded}
use Rattle.lower_tables.specs.Kinds.{kind_of}
use Rattle.lower.specs.Lowered.{function_code, lowered, result_kind, with_main_first}
use Rattle.lower_expressions.specs.Expressions.{print_code, result_register, swapped, type_given}
use Rattle.lower.proofs.Joint.{Joint, Lands, joint_done, joint_from, joint_on, run_one}
use Rattle.lower.proofs.Operators.{coded_number, coded_truth, letter_shown}
use Rattle.lower.proofs.Registers.{Matched, and_true, has_it, keeps_less, matched_keep}
use Rattle.lower.proofs.Running.{does, going_less, set_valued}
use Rattle.lower.proofs.Sides.{Alike, Going, Valued}
use Rattle.lower.proofs.Values.{AreOf, given_type}

-- cells that stand for values, one by one
abbrev pub AllCoded : Head → List Value → List ℕ → Type 0
AllCoded H [] [] = Unit {0}
AllCoded H (v ∷ vs) (n ∷ ns) = Coded H v n × AllCoded H vs ns
AllCoded H _ _ = ⊥

module _ (typed : Typed) (singles : List Kind) (checks : Bool) where
  abbrev pub p : Program
  p = program_of typed

  abbrev pub P : f.Program
  P = lowered singles checks typed

  abbrev pub H : Head
  H = P.head

  abbrev n : ℕ
  n = length p.structs

  -- what a call gives: its value, and its caller's locals
  pub record Returned (g : t.Function) (s : State) (made : List Kept) (v : Value) (u : State) (cell : ℕ) (w : m.State) : Type 0 where
    pub is : Is p made g.result v
    pub heap : IsHeap p made u.heap
    pub locals : u.locals ≡ s.locals
    pub coded : Coded H v cell
    pub alike : Alike p H made u w

  -- the calls of the meaning and of the code come to the same
  abbrev pub CallsOk : (ℕ → List Value → State → Outcome Value) → (ℕ → List ℕ → m.State → m.Outcome ℕ) → Type 0
  CallsOk call call' = (k : ℕ) (g : t.Function) (made : List Kept) (vs : List Value) (ns : List ℕ) (s : State) (w : m.State) → slice_get p.functions k ≡ Some g → AreAll p made g.parameters vs → AllCoded H vs ns → IsHeap p made s.heap → Alike p H made s w
      → Joint made (Returned g s) (call k vs s) (call' (swapped typed.main k) ns w)

  module _ (types : List Ty) (locals : ℕ) (ks : List Kind) where
    -- arguments stand in registers
    pub record Rowed (ts : List Ty) (regs : List ℕ) (d : ℕ) (rs : List ℕ) (made : List Kept) (vs : List Value) (s : State) (x : m.Left) (w : m.State) : Type 0 where
      pub falls : x.0 ≡ 0
      pub are : AreAll p made ts vs
      pub coded : AllCoded H vs (map (slice_index x.1) regs)
      pub going : Going p H types locals d rs made s x.1 w

    module _ (call' : ℕ → List ℕ → m.State → m.Outcome ℕ) where
      -- a call of the library prints what its argument is
      output_runs : (out : Output) (regs : List ℕ) (vs : List Value) (made : List Kept) (xs : List ℕ) (w : m.State) → AreOf typed singles types locals ks (output_types (output_of out)) regs → AreAll p made (output_types (output_of out)) vs → AllCoded H vs (map (slice_index xs) regs)
          → m.run P call' ks (f.Do (print_code out regs)) xs w ≡ m.on xs (record w { output = w.output ++ printed (output_of out) vs })
      output_runs o.Print [] vs made xs w r i c = absurd r
      output_runs o.Print (a ∷ b ∷ regs) vs made xs w r i c = absurd r.1
      output_runs o.Print (a ∷ []) [] made xs w r i c = absurd i
      output_runs o.Print (a ∷ []) (v ∷ x ∷ vs) made xs w r i c = absurd i.1
      output_runs o.Print (a ∷ []) (v ∷ []) made xs w r i c =
          does P call' ks (op.Print a) xs w (has_it ks a kind.Text r.0)
          ∙ ap (λ z. m.operated (prints_text z []) xs w) (subst (λ y. Coded H y (slice_index xs a)) i.0.1 c.0)
          ∙ ap (λ z. m.on xs (record w { output = w.output ++ z })) (append-nil i.0.0 ∙ sym (ap as_text i.0.1))
      output_runs o.Println [] vs made xs w r i c = absurd r
      output_runs o.Println (a ∷ b ∷ regs) vs made xs w r i c = absurd r.1
      output_runs o.Println (a ∷ []) [] made xs w r i c = absurd i
      output_runs o.Println (a ∷ []) (v ∷ x ∷ vs) made xs w r i c = absurd i.1
      output_runs o.Println (a ∷ []) (v ∷ []) made xs w r i c =
          does P call' ks (op.Println a) xs w (has_it ks a kind.Text r.0)
          ∙ ap (λ z. m.operated (prints_text z (10 ∷ [])) xs w) (subst (λ y. Coded H y (slice_index xs a)) i.0.1 c.0)
          ∙ ap (λ z. m.on xs (record w { output = w.output ++ (z ++ 10 ∷ []) })) (sym (ap as_text i.0.1))
      output_runs o.Printint [] vs made xs w r i c = absurd r
      output_runs o.Printint (a ∷ b ∷ regs) vs made xs w r i c = absurd r.1
      output_runs o.Printint (a ∷ []) [] made xs w r i c = absurd i
      output_runs o.Printint (a ∷ []) (v ∷ x ∷ vs) made xs w r i c = absurd i.1
      output_runs o.Printint (a ∷ []) (v ∷ []) made xs w r i c =
          does P call' ks (op.Printint a) xs w (has_it ks a kind.Int r.0)
          ∙ ap (λ z. m.on xs (record w { output = w.output ++ signed_decimal z })) (coded_number H p made v (slice_index xs a) i.0 c.0)
      output_runs o.Printbool [] vs made xs w r i c = absurd r
      output_runs o.Printbool (a ∷ b ∷ regs) vs made xs w r i c = absurd r.1
      output_runs o.Printbool (a ∷ []) [] made xs w r i c = absurd i
      output_runs o.Printbool (a ∷ []) (v ∷ x ∷ vs) made xs w r i c = absurd i.1
      output_runs o.Printbool (a ∷ []) (v ∷ []) made xs w r i c =
          does P call' ks (op.Printbool a) xs w (has_it ks a kind.Bool r.0)
          ∙ ap (λ z. m.on xs (record w { output = w.output ++ if_zero z (codes "false") (codes "true") })) (coded_truth H p made v (slice_index xs a) i.0 c.0)
          ∙ ap (λ z. m.on xs (record w { output = w.output ++ z })) (told (as_truth v))
        where
          told : (b : Bool) → if_zero (of_bool b) (codes "false") (codes "true") ≡ elim b [ true ↦ codes "true" | false ↦ codes "false" ]
          told true = refl
          told false = refl
      output_runs o.Printchar [] vs made xs w r i c = absurd r
      output_runs o.Printchar (a ∷ b ∷ regs) vs made xs w r i c = absurd r.1
      output_runs o.Printchar (a ∷ []) [] made xs w r i c = absurd i
      output_runs o.Printchar (a ∷ []) (v ∷ x ∷ vs) made xs w r i c = absurd i.1
      output_runs o.Printchar (a ∷ []) (v ∷ []) made xs w r i c =
          does P call' ks (op.Printchar a) xs w (has_it ks a kind.Char r.0)
          ∙ ap (λ z. m.on xs (record w { output = w.output ++ (z ∷ []) })) (letter_shown H p made v (slice_index xs a) i.0 c.0)
      output_runs o.Flush (a ∷ regs) vs made xs w r i c = absurd r
      output_runs o.Flush [] (v ∷ vs) made xs w r i c = absurd i
      output_runs o.Flush [] [] made xs w r i c =
          does P call' ks op.Flush xs w refl ∙ ap (λ z. m.on xs (record w { output = z })) (sym (append-nil w.output))

      -- it gives nothing
      pub output_ok : (out : Output) (regs : List ℕ) (d : ℕ) (vs : List Value) (made : List Kept) (s : State) (rs xs : List ℕ) (w : m.State) → AreOf typed singles types locals ks (output_types (output_of out)) regs → Rowed (output_types (output_of out)) regs (suc d) rs made vs s (0, xs) w
          → Joint made (Valued p H types locals d VoidTy d rs) (Done Void (record s { output = s.output ++ printed (output_of out) vs })) (m.run P call' ks (f.Do (print_code out regs)) xs w)
      output_ok out regs d vs made s rs xs w r h =
          subst (λ z. Joint made (Valued p H types locals d VoidTy d rs) (Done Void (record s { output = s.output ++ printed (output_of out) vs })) z) (sym (output_runs out regs vs made xs w r h.are h.coded))
          (joint_done made (Valued p H types locals d VoidTy d rs) Void (record s { output = s.output ++ printed (output_of out) vs }) (0, xs) (record w { output = w.output ++ printed (output_of out) vs })
          (record {
            falls = refl;
            is = refl;
            coded = tt;
            going = record {
              state = h.going.state;
              keeps = keeps_less d (suc d) rs xs (omega arith) h.going.keeps;
              long = h.going.long;
              matched = h.going.matched;
              alike = record { turns = h.going.alike.turns; output = ap (λ z. z ++ printed (output_of out) vs) h.going.alike.output; heap = h.going.alike.heap };
            };
          }))
