use Rattle.std.proofs.Common.{◌∙◌, map, false}
use Rattle.c0_typed.specs.Views.{function_of, struct_of}
use Rattle.c0_types.proofs.declare.Elaborated.new.Goals as goal

pub returns : goal.returns
returns c = λ texts i. record {
  environment = record {
    conio = (c.new.ensures.names.0 ∙ c.begins_with_conio-conio.ensures) i;
    struct_names = (c.new.ensures.names.1 ∙ c.in_ok-structs.ensures) i;
    function_names = (c.new.ensures.names.2 ∙ c.in_ok-functions.ensures) i;
    typedefs = c.new.ensures.typedefs i;
    structs = c.new.ensures.structs i;
    functions = c.new.ensures.functions i;
  };
  begun = false;
  structs = map struct_of (c.new-2.ensures.items i);
  functions = map (function_of texts) (c.new-3.ensures.items i);
}
