use Rattle.std.proofs.Common.{◌<◌, [], None, arith, refl}
use Rattle.code_form.specs.Form.{Block, Function, ReturnVoid}
use Rattle.c0_well_formed.specs.Worked.{far_aim}
use Rattle.c0_image_laws.proofs.laws.worked_image.Goals as goal

pub returns-clause-verified : goal.returns-clause-verified
returns-clause-verified c = c.accepted_is_verified.ensures.verified far_aim refl

-- a function, a block and an instruction, for places that are there
abbrev some : Function
some = record { result = None; parameters = 0; kinds = []; scopes = 0; blocks = [] }

abbrev one : Block
one = record { facts = []; code = [] }

pub returns-clause-inconsistent : goal.returns-clause-inconsistent
returns-clause-inconsistent c h = let far : 4294967296 < 4294967296 = (h.functions 0 some (omega arith)).numbers 0 one (omega arith) 0 ReturnVoid (omega arith) in omega arith

pub returns-clause-not_encodable : goal.returns-clause-not_encodable
returns-clause-not_encodable c h = let far : 4294967296 < 4294967296 = h.1.1.1.1.0.1.1.1.1.1.0.1.1.0.1.1.1.0 in omega arith
