-- What fits names what is there: the numbers of an instruction and of an entry fact are in range.
use Rattle.std.proofs.Common.{◌≡◌, ℕ, zero, suc, ◌<◌, Bool, true, Option, Some, None, List, [], ◌∷◌, length, refl}
use Rattle.std.specs.Prelude.{◌&&◌, is_some, nat_lt, slice_get}
use Rattle.std.proofs.lemmas.Option.{slice_get_within}
use Rattle.code_form.specs.declared.form.Kind.{Kind}
use Rattle.code_form.specs.declared.form.Kind.TheVariants as kind
use Rattle.code_form.specs.declared.form.Fact.{Fact}
use Rattle.code_form.specs.declared.form.Fact.TheVariants as fact
use Rattle.code_form.specs.declared.form.Operation.{Operation}
use Rattle.code_form.specs.declared.form.Operation.TheVariants.{Const, TextOf, BoolOf, CharOf, Null, Move, Binary, Unary, Compare, CheckNull, CheckIndex, Len, Prefetch, Alloc, AllocArray, Print, Println, Printint, Printbool, Printchar, Flush, Assert}
use Rattle.code_form.specs.declared.form.UnaryOperator.TheVariants as operator
use Rattle.code_form.specs.Form.{Instruction, Simple, Aim, Load, Store, Leave, Call, Jump, Branch, Return, ReturnVoid, Error, Function, Image}
use Rattle.code_form.specs.Code.{args_fit, cell_kind, has, has_size, is_array, is_array_of, is_compared, is_kind, is_pointer, is_reference, on_kind, op_fits, place_fits, result_fits}
use Rattle.code_form.specs.Known.{Known, KnownAimed, KnownShut, Knows, Unknown}
use Rattle.code_form.specs.Asked.{Enters, Fits, IsAimedAt, callee_fits}
use Rattle.code_verification.specs.Verified.{NamesFact}
use Rattle.scope_verifier_laws.specs.First.{first_in}
use Rattle.scope_verifier_laws.specs.declared.fault.VerifyFault.TheVariants.{OperandKind}
use Rattle.scope_verifier_laws.specs.Numbers.{fact_numbers, instruction_numbers, register_fault}
use Rattle.scope_verifier_laws.proofs.Firsts.{both, both_true, unless_true}
use Rattle.scope_verifier_laws.proofs.Deciding.{is_less}

-- ---- registers

-- what is there
some_there : {A : Type 0} (xs : List A) (i : ℕ) (o : Option A) → slice_get xs i ≡ o → is_some o ≡ true → nat_lt i (length xs) ≡ true
some_there xs i None e h = absurd (cc h)
some_there xs i (Some x) e h = is_less i (length xs) (slice_get_within xs i x e)

pub there : {A : Type 0} (xs : List A) (i : ℕ) → is_some (slice_get xs i) ≡ true → nat_lt i (length xs) ≡ true
there xs i h = some_there xs i (slice_get xs i) refl h

pub found : {A : Type 0} (xs : List A) (i : ℕ) (x : A) → slice_get xs i ≡ Some x → nat_lt i (length xs) ≡ true
found xs i x e = is_less i (length xs) (slice_get_within xs i x e)

some_on : (test : Kind → Bool) (o : Option Kind) → on_kind test o ≡ true → is_some o ≡ true
some_on test None h = absurd (cc h)
some_on test (Some k) h = refl

some_is : (k : Kind) (o : Option Kind) → is_kind k o ≡ true → is_some o ≡ true
some_is k None h = absurd (cc h)
some_is k (Some j) h = refl

some_offset : (o p : Option Kind) → is_array_of o p ≡ true → is_some o ≡ true
some_offset None p h = absurd (cc h)
some_offset (Some k) p h = refl

some_array : (o p : Option Kind) → is_array_of o p ≡ true → is_some p ≡ true
some_array None p h = absurd (cc h)
some_array (Some (kind.Off l)) None h = absurd (cc h)
some_array (Some (kind.Off l)) (Some k) h = refl
some_array (Some kind.Int) p h = absurd (cc h)
some_array (Some kind.Bool) p h = absurd (cc h)
some_array (Some kind.Char) p h = absurd (cc h)
some_array (Some kind.Text) p h = absurd (cc h)
some_array (Some (kind.Ptr l)) p h = absurd (cc h)
some_array (Some (kind.Arr l)) p h = absurd (cc h)

module _ (ks : List Kind) where
  pub has_there : (r : ℕ) (k : Kind) → has ks r k ≡ true → nat_lt r (length ks) ≡ true
  has_there r k h = there ks r (some_is k (slice_get ks r) h)

  pub on_there : (test : Kind → Bool) (r : ℕ) → on_kind test (slice_get ks r) ≡ true → nat_lt r (length ks) ≡ true
  on_there test r h = there ks r (some_on test (slice_get ks r) h)

  -- register a has the kind of what is there
  pub like_there : (a : ℕ) (o : Option Kind) → on_kind (λ k. has ks a k) o ≡ true → nat_lt a (length ks) ≡ true
  like_there a None h = absurd (cc h)
  like_there a (Some k) h = has_there a k h

  compared_there : (b : ℕ) (test : Kind → Bool) (o : Option Kind) → on_kind (λ k. test k && has ks b k) o ≡ true → nat_lt b (length ks) ≡ true
  compared_there b test None h = absurd (cc h)
  compared_there b test (Some k) h = has_there b k (both_true (test k) (has ks b k) h).1

  pub offset_there : (d r : ℕ) → is_array_of (slice_get ks d) (slice_get ks r) ≡ true → nat_lt d (length ks) ≡ true
  offset_there d r h = there ks d (some_offset (slice_get ks d) (slice_get ks r) h)

  pub array_there : (d r : ℕ) → is_array_of (slice_get ks d) (slice_get ks r) ≡ true → nat_lt r (length ks) ≡ true
  array_there d r h = there ks r (some_array (slice_get ks d) (slice_get ks r) h)

-- ---- instructions

module _ (C : Image) (f : Function) where
  abbrev ks : List Kind
  ks = f.kinds

  pub has_of : (r : ℕ) (k : Kind) → has ks r k ≡ true → nat_lt r (length ks) ≡ true
  has_of r k = has_there ks r k

  -- two and three tests
  two : (a b : Bool) → a && b ≡ true → (a ≡ true) × (b ≡ true)
  two = both_true

  operation : (o : Operation) → op_fits C.head ks o ≡ true → instruction_numbers C f (Simple o) ≡ None
  operation (Const d z) h = rw (has_there ks d kind.Int h) refl
  operation (TextOf d n) h = let q = both_true (has ks d kind.Text) (nat_lt n (suc (length C.head.texts))) h in rw (has_there ks d kind.Text q.0, q.1) refl
  operation (BoolOf d b) h = rw (has_there ks d kind.Bool h) refl
  operation (CharOf d c) h = rw (has_there ks d kind.Char h) refl
  operation (Null d) h = rw (on_there ks is_reference d h) refl
  operation (Move d a) h = rw (like_there ks d (slice_get ks a) h, on_there ks (λ k. has ks d k) a h) refl
  operation (Binary o d a b) h =
      let q = both_true (has ks d kind.Int) (has ks a kind.Int && has ks b kind.Int) h in
      let w = both_true (has ks a kind.Int) (has ks b kind.Int) q.1 in
      rw (has_there ks d kind.Int q.0, has_there ks a kind.Int w.0, has_there ks b kind.Int w.1) refl
  operation (Unary operator.Not d a) h = let q = both_true (has ks d kind.Bool) (has ks a kind.Bool) h in rw (has_there ks d kind.Bool q.0, has_there ks a kind.Bool q.1) refl
  operation (Unary operator.Negate d a) h = let q = both_true (has ks d kind.Int) (has ks a kind.Int) h in rw (has_there ks d kind.Int q.0, has_there ks a kind.Int q.1) refl
  operation (Unary operator.Complement d a) h = let q = both_true (has ks d kind.Int) (has ks a kind.Int) h in rw (has_there ks d kind.Int q.0, has_there ks a kind.Int q.1) refl
  operation (Compare r d a b) h =
      let q = both_true (has ks d kind.Bool) (on_kind (λ k. is_compared r k && has ks b k) (slice_get ks a)) h in
      rw (has_there ks d kind.Bool q.0, on_there ks (λ k. is_compared r k && has ks b k) a q.1, compared_there ks b (is_compared r) (slice_get ks a) q.1) refl
  operation (CheckNull r) h = rw (on_there ks is_pointer r h) refl
  operation (CheckIndex d r i size) h =
      let q = both_true (is_array_of (slice_get ks d) (slice_get ks r)) (has ks i kind.Int && has_size C.head size (slice_get ks r)) h in
      let w = both_true (has ks i kind.Int) (has_size C.head size (slice_get ks r)) q.1 in
      rw (offset_there ks d r q.0, array_there ks d r q.0, has_there ks i kind.Int w.0) refl
  operation (Len d r) h = let q = both_true (has ks d kind.Int) (on_kind is_array (slice_get ks r)) h in rw (has_there ks d kind.Int q.0, on_there ks is_array r q.1) refl
  operation (Prefetch r None disp) h = rw (on_there ks is_reference r h) refl
  operation (Prefetch r (Some d) disp) h = rw (array_there ks d r h, offset_there ks d r h) refl
  operation (Alloc d l) h = let q = both_true (has ks d (kind.Ptr l)) (is_some (slice_get C.head.layouts l)) h in rw (has_there ks d (kind.Ptr l) q.0, there C.head.layouts l q.1) refl
  operation (AllocArray d l n) h =
      let q = both_true (has ks d (kind.Arr l)) (has ks n kind.Int && is_some (slice_get C.head.layouts l)) h in
      let w = both_true (has ks n kind.Int) (is_some (slice_get C.head.layouts l)) q.1 in
      rw (has_there ks d (kind.Arr l) q.0, has_there ks n kind.Int w.0, there C.head.layouts l w.1) refl
  operation (Print a) h = rw (has_there ks a kind.Text h) refl
  operation (Println a) h = rw (has_there ks a kind.Text h) refl
  operation (Printint a) h = rw (has_there ks a kind.Int h) refl
  operation (Printbool a) h = rw (has_there ks a kind.Bool h) refl
  operation (Printchar a) h = rw (has_there ks a kind.Char h) refl
  operation Flush h = refl
  operation (Assert a) h = rw (has_there ks a kind.Bool h) refl

  aim : (s r : ℕ) (off : Option ℕ) (disp : ℕ) → place_fits ks r off ≡ true → s < f.scopes → instruction_numbers C f (Aim s r off disp) ≡ None
  aim s r None disp h l = rw (is_less s f.scopes l, on_there ks is_reference r h) refl
  aim s r (Some d) disp h l = rw (is_less s f.scopes l, array_there ks d r h, offset_there ks d r h) refl

  pub aimed_there : (z : Knows) (a : ℕ) → IsAimedAt C f z a → nat_lt a (length ks) ≡ true
  aimed_there Unknown a h = absurd h
  aimed_there KnownShut a h = absurd h
  aimed_there (KnownAimed r off disp) a h = like_there ks a (cell_kind C.head ks r disp) h.1

  arguments : (theirs : List Kind) (n : ℕ) (args : List ℕ) → args_fit ks theirs n args ≡ true → first_in (register_fault f) args ≡ None
  arguments theirs n [] h = refl
  arguments theirs zero (a ∷ args) h = absurd (cc h)
  arguments [] (suc n) (a ∷ args) h = absurd (cc h)
  arguments (k ∷ theirs) (suc n) (a ∷ args) h =
      let q = both_true (has ks a k) (args_fit ks theirs n args) h in
      both (register_fault f a) (first_in (register_fault f) args) (unless_true (nat_lt a (length ks)) OperandKind (has_there ks a k q.0)) (arguments theirs n args q.1)

  pub to_there : (result : Option Kind) (d : ℕ) → result_fits ks result (Some d) ≡ true → nat_lt d (length ks) ≡ true
  to_there None d h = absurd (cc h)
  to_there (Some k) d h = has_there ks d k h

  call : (o : Option Function) (to : Option ℕ) (g : ℕ) (args : List ℕ) → slice_get C.functions g ≡ o → callee_fits C f o to args ≡ true → instruction_numbers C f (Call to g args) ≡ None
  call None to g args e h = absurd (cc h)
  call (Some x) None g args e h =
      let q = both_true (args_fit ks x.kinds x.parameters args) (result_fits ks x.result None) h in
      rw (found C.functions g x e, arguments x.kinds x.parameters args q.0) refl
  call (Some x) (Some d) g args e h =
      let q = both_true (args_fit ks x.kinds x.parameters args) (result_fits ks x.result (Some d)) h in
      rw (to_there x.result d q.1, found C.functions g x e, arguments x.kinds x.parameters args q.0) refl

  block_there : (k : Known) (b : ℕ) → Enters C f k b → nat_lt b (length f.blocks) ≡ true
  block_there k b h = found f.blocks b h.0 h.1

  pub instruction : (k : Known) (i : Instruction) → Fits C f k i → instruction_numbers C f i ≡ None
  instruction k (Simple o) h = operation o h
  instruction k (Aim s r off disp) h = aim s r off disp h.0 h.1
  instruction k (Load to s) h = rw (is_less s f.scopes h.0, aimed_there (k.scope s) to h.1) refl
  instruction k (Store s from) h = rw (is_less s f.scopes h.0, aimed_there (k.scope s) from h.1) refl
  instruction k (Leave s) h = rw (is_less s f.scopes h) refl
  instruction k (Call to g args) h = call (slice_get C.functions g) to g args refl h
  instruction k (Jump b) h = rw (block_there k b h) refl
  instruction k (Branch a b c) h = rw (has_there ks a kind.Bool h.0, block_there k b h.1, block_there k c h.2) refl
  instruction k (Return a) h = rw (like_there ks a f.result h) refl
  instruction k ReturnVoid h = refl
  instruction k (Error a) h = rw (has_there ks a kind.Text h) refl

  pub entry_fact : (x : Fact) → NamesFact ks f.scopes x → fact_numbers f x ≡ None
  entry_fact (fact.Nonnull r) h = rw (on_there ks is_pointer r h) refl
  entry_fact (fact.Inside d r) h = rw (offset_there ks d r h, array_there ks d r h) refl
  entry_fact (fact.Aimed s r None disp) h = rw (is_less s f.scopes h.0, on_there ks is_reference r h.1) refl
  entry_fact (fact.Aimed s r (Some d) disp) h = rw (is_less s f.scopes h.0, array_there ks d r h.1, offset_there ks d r h.1) refl
  entry_fact (fact.Shut s) h = rw (is_less s f.scopes h) refl
