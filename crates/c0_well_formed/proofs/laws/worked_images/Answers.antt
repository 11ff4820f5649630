use Rattle.std.proofs.Common.{◌≡◌, ◌<◌, ◌≤◌, ℕ, Bool, true, false, List, [], None, arith, length, refl}
use Rattle.std.specs.Prelude.{◌&&◌, replicate}
use Rattle.std.proofs.lemmas.Bool.{ltb-true}
use Rattle.std.proofs.lemmas.List.{length-replicate}
use Rattle.code_form.specs.declared.form.Kind.TheVariants as kind
use Rattle.code_form.specs.declared.form.Fact.TheVariants as fact
use Rattle.code_form.specs.Form.{Block, Function, ReturnVoid}
use Rattle.c0_well_formed.proofs.laws.worked_images.Goals as goal

-- a function, a block and an instruction, for places that are there
abbrev some : Function
some = record { result = None; parameters = 0; kinds = []; scopes = 0; blocks = [] }

abbrev one : Block
one = record { facts = []; code = [] }

first_true : (a b : Bool) → (a && b) ≡ true → a ≡ true
first_true true b h = refl
first_true false b h = h

pub returns-clause-pieces : goal.returns-clause-pieces
returns-clause-pieces c h = absurd (cc h.pieces)

pub returns-clause-items : goal.returns-clause-items
returns-clause-items c n l h =
    let texts : List (List ℕ) = replicate n [] in
    let few : length texts < 4294967296 = ltb-true (length texts) 4294967296 (first_true _ _ h.few) in
    let all : length texts ≡ n = length-replicate n [] in
    omega (arith, few, all, l)

pub returns-clause-layout : goal.returns-clause-layout
returns-clause-layout c h = absurd (cc ((h.functions 0 some (omega arith)).kinds 1 kind.Int (omega arith)))

pub returns-clause-cell : goal.returns-clause-cell
returns-clause-cell c h = absurd (cc (h.layouts 0 [] (omega arith) 0 kind.Int (omega arith)))

pub returns-clause-parameter : goal.returns-clause-parameter
returns-clause-parameter c h = absurd (cc ((h.functions 0 some (omega arith)).parameters 0 kind.Int (omega arith)))

pub returns-clause-scopes : goal.returns-clause-scopes
returns-clause-scopes c h = let z : 5 ≤ 4 = (h.functions 0 some (omega arith)).scopes in omega arith

pub returns-clause-text : goal.returns-clause-text
returns-clause-text c h = let z : 128 < 128 = h.texts 0 [] (omega arith) 0 0 (omega arith) in omega arith

pub returns-clause-character : goal.returns-clause-character
returns-clause-character c h = let z : 128 < 128 = (h.functions 0 some (omega arith)).numbers 0 one (omega arith) 0 ReturnVoid (omega arith) in omega arith

pub returns-clause-number : goal.returns-clause-number
returns-clause-number c h = let z = (h.functions 0 some (omega arith)).numbers 0 one (omega arith) 0 ReturnVoid (omega arith) in omega (arith, z)

pub returns-clause-displacement : goal.returns-clause-displacement
returns-clause-displacement c h = let z : 4294967296 < 4294967296 = (h.functions 0 some (omega arith)).numbers 0 one (omega arith) 0 ReturnVoid (omega arith) in omega arith

pub returns-clause-aim : goal.returns-clause-aim
returns-clause-aim c h = let z : 4294967296 < 4294967296 = (h.functions 0 some (omega arith)).numbers 0 one (omega arith) 0 ReturnVoid (omega arith) in omega arith

pub returns-clause-told : goal.returns-clause-told
returns-clause-told c h = let z : 4294967296 < 4294967296 = (h.functions 0 some (omega arith)).told 0 one (omega arith) 0 (fact.Shut 0) (omega arith) in omega arith

pub returns-clause-fact : goal.returns-clause-fact
returns-clause-fact c h = let z : 1 < 1 = h.facts 0 some (omega arith) 0 one (omega arith) 0 (fact.Shut 0) (omega arith) in omega arith
