-- The laws of the table, by its rows.
use Rattle.std.proofs.Common.{◌≡◌, ℕ, Bool, true, false, cond, eqb, List, [], ◌∷◌, Option, Some, refl, sym, ◌∙◌, ap}
use Rattle.std.proofs.lemmas.Bool.{eqb-true}
use Rattle.cells.specs.declared.int32.Int32Op.TheVariants as b
use Rattle.code_form.specs.declared.form.UnaryOperator.TheVariants as u
use Rattle.code_form.specs.declared.form.Relation.TheVariants as r
use Rattle.code_form.specs.declared.form.Operation.TheVariants as p
use Rattle.code_form.specs.Form as form
use Rattle.code_form.specs.Form.{Instruction}
use Rattle.instruction_table.specs.declared.name.Name.{Name}
use Rattle.instruction_table.specs.declared.name.Name.TheVariants as n
use Rattle.instruction_table.specs.declared.name.TheConstants.{NAMES}
use Rattle.instruction_table.specs.Table.{code_of, name_among, name_with}
use Rattle.instruction_table.specs.Laws.{EachIsFound, EachIsMade, FoundHasCode, MadeOfThese, NoOtherCode}

pub each_is_made : EachIsMade
each_is_made (form.Simple (p.Const a b)) = refl
each_is_made (form.Simple (p.TextOf a b)) = refl
each_is_made (form.Simple (p.BoolOf a b)) = refl
each_is_made (form.Simple (p.CharOf a b)) = refl
each_is_made (form.Simple (p.Null a)) = refl
each_is_made (form.Simple (p.Move a b)) = refl
each_is_made (form.Simple (p.Binary a b c d)) = refl
each_is_made (form.Simple (p.Unary a b c)) = refl
each_is_made (form.Simple (p.Compare a b c d)) = refl
each_is_made (form.Simple (p.CheckNull a)) = refl
each_is_made (form.Simple (p.CheckIndex a b c d)) = refl
each_is_made (form.Simple (p.Len a b)) = refl
each_is_made (form.Simple (p.Prefetch a b c)) = refl
each_is_made (form.Simple (p.Alloc a b)) = refl
each_is_made (form.Simple (p.AllocArray a b c)) = refl
each_is_made (form.Simple (p.Print a)) = refl
each_is_made (form.Simple (p.Println a)) = refl
each_is_made (form.Simple (p.Printint a)) = refl
each_is_made (form.Simple (p.Printbool a)) = refl
each_is_made (form.Simple (p.Printchar a)) = refl
each_is_made (form.Simple p.Flush) = refl
each_is_made (form.Simple (p.Assert a)) = refl
each_is_made (form.Aim a b c d) = refl
each_is_made (form.Load a b) = refl
each_is_made (form.Store a b) = refl
each_is_made (form.Leave a) = refl
each_is_made (form.Call a b c) = refl
each_is_made (form.Jump a) = refl
each_is_made (form.Branch a b c) = refl
each_is_made (form.Return a) = refl
each_is_made form.ReturnVoid = refl
each_is_made (form.Error a) = refl

pub made_of_these : MadeOfThese
made_of_these n.Const v = refl
made_of_these n.TextOf v = refl
made_of_these n.BoolOf v = refl
made_of_these n.CharOf v = refl
made_of_these n.Null v = refl
made_of_these n.Move v = refl
made_of_these (n.Binary o) v = refl
made_of_these (n.Unary o) v = refl
made_of_these (n.Compare o) v = refl
made_of_these n.CheckNull v = refl
made_of_these n.CheckIndex v = refl
made_of_these n.Len v = refl
made_of_these n.Prefetch v = refl
made_of_these n.Alloc v = refl
made_of_these n.AllocArray v = refl
made_of_these n.Print v = refl
made_of_these n.Println v = refl
made_of_these n.Printint v = refl
made_of_these n.Printbool v = refl
made_of_these n.Printchar v = refl
made_of_these n.Flush v = refl
made_of_these n.Assert v = refl
made_of_these n.Aim v = refl
made_of_these n.Load v = refl
made_of_these n.Store v = refl
made_of_these n.Leave v = refl
made_of_these n.Call v = refl
made_of_these n.Jump v = refl
made_of_these n.Branch v = refl
made_of_these n.Return v = refl
made_of_these n.ReturnVoid v = refl
made_of_these n.Error v = refl

pub each_is_found : EachIsFound
each_is_found n.Const = refl
each_is_found n.TextOf = refl
each_is_found n.BoolOf = refl
each_is_found n.CharOf = refl
each_is_found n.Null = refl
each_is_found n.Move = refl
each_is_found (n.Binary b.Add) = refl
each_is_found (n.Binary b.Sub) = refl
each_is_found (n.Binary b.Mul) = refl
each_is_found (n.Binary b.Div) = refl
each_is_found (n.Binary b.Mod) = refl
each_is_found (n.Binary b.And) = refl
each_is_found (n.Binary b.Or) = refl
each_is_found (n.Binary b.Xor) = refl
each_is_found (n.Binary b.Shl) = refl
each_is_found (n.Binary b.Shr) = refl
each_is_found (n.Unary u.Negate) = refl
each_is_found (n.Unary u.Complement) = refl
each_is_found (n.Unary u.Not) = refl
each_is_found (n.Compare r.Equal) = refl
each_is_found (n.Compare r.NotEqual) = refl
each_is_found (n.Compare r.Less) = refl
each_is_found (n.Compare r.LessOrEqual) = refl
each_is_found (n.Compare r.Greater) = refl
each_is_found (n.Compare r.GreaterOrEqual) = refl
each_is_found n.CheckNull = refl
each_is_found n.CheckIndex = refl
each_is_found n.Len = refl
each_is_found n.Prefetch = refl
each_is_found n.Alloc = refl
each_is_found n.AllocArray = refl
each_is_found n.Print = refl
each_is_found n.Println = refl
each_is_found n.Printint = refl
each_is_found n.Printbool = refl
each_is_found n.Printchar = refl
each_is_found n.Flush = refl
each_is_found n.Assert = refl
each_is_found n.Aim = refl
each_is_found n.Load = refl
each_is_found n.Store = refl
each_is_found n.Leave = refl
each_is_found n.Call = refl
each_is_found n.Jump = refl
each_is_found n.Branch = refl
each_is_found n.Return = refl
each_is_found n.ReturnVoid = refl
each_is_found n.Error = refl

-- the name that is chosen has the code, where those behind it have it
chosen_has : (test : Bool) (first name : Name) (code : ℕ) (others : Option Name) → (test ≡ true → code_of first ≡ code) → (others ≡ Some name → code_of name ≡ code) → cond test (Some first) others ≡ Some name → code_of name ≡ code
chosen_has true first name code others here behind e = let same : first ≡ name = cc in ap code_of (sym same) ∙ here refl
chosen_has false first name code others here behind e = behind e

among_has : (names : List Name) (code : ℕ) (name : Name) → name_among names code ≡ Some name → code_of name ≡ code
among_has [] code name e = absurd cc
among_has (first ∷ names) code name e = chosen_has (eqb (code_of first) code) first name code (name_among names code) (eqb-true (code_of first) code) (among_has names code name) e

pub found_has_code : FoundHasCode
found_has_code code name e = among_has NAMES code name e

pub no_other_code : NoOtherCode
no_other_code code none name e = let found : name_with code ≡ Some name = ap name_with (sym e) ∙ each_is_found name in absurd cc
