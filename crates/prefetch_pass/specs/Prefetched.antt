-- Hints in loops. Behind each load and each store of an element at an index that is only raised in its loop stands a hint for the cell one piece further on,
-- where its displacement is one of 32 bits. All other code stays as it is.
use Rattle.std.specs.Prelude.{ℕ, ◌+◌, ◌&&◌, nat_lt, cond, Option, Some, None, List, [], map}
use Rattle.code_form.specs.declared.form.Operation.TheVariants.{Prefetch}
use Rattle.middle_form.specs.Scoped.{Code, Nothing, Do, Load, Store, LoadBy, StoreBy, Then, Choose, Loop, Block, Function, Program}
use Rattle.prefetch_pass.specs.Raised.{is_among, offsets_with}

-- Over pieces of so many cells
module _ (cells : ℕ) where
  -- a load or a store, and behind it a hint for the cell that many further on
  abbrev pub hinted_for : (r d disp : ℕ) → Code → Code
  hinted_for r d disp a = Then a (Then (Do (Prefetch r (Some d) (disp + cells))) Nothing)

  -- ... where it is through one of these offsets
  abbrev pub with_hint : (offsets : List ℕ) → (r : ℕ) → Option ℕ → ℕ → Code → Code
  with_hint ds r None disp a = a
  with_hint ds r (Some d) disp a = cond (is_among ds d && nat_lt (disp + cells) 4294967296) (hinted_for r d disp a) a

  -- code with a hint behind each load and each store through one of these offsets
  abbrev pub hinted : (offsets : List ℕ) → Code → Code
  hinted ds (Load to s r off disp) = with_hint ds r off disp (Load to s r off disp)
  hinted ds (Store s r off disp from) = with_hint ds r off disp (Store s r off disp from)
  hinted ds (LoadBy to s r off disp) = with_hint ds r off disp (LoadBy to s r off disp)
  hinted ds (StoreBy s r off disp from) = with_hint ds r off disp (StoreBy s r off disp from)
  hinted ds (Then a b) = Then (hinted ds a) (hinted ds b)
  hinted ds (Choose c a b) = Choose c (hinted ds a) (hinted ds b)
  hinted ds (Loop test c body) = Loop (hinted ds test) c (hinted ds body)
  hinted ds (Block a) = Block (hinted ds a)
  hinted ds a = a

  -- a function
  abbrev pub prefetched_function : Function → Function
  prefetched_function g = record {
    result = g.result;
    parameters = g.parameters;
    kinds = g.kinds;
    scopes = g.scopes;
    body = hinted (offsets_with g.body [] []) g.body;
    value = g.value;
  }

  -- a program
  abbrev pub prefetched_program : Program → Program
  prefetched_program P = record { head = P.head; functions = map prefetched_function P.functions }
