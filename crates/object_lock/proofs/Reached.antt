-- One list of calls leads to the machine of a table.
use Rattle.std.proofs.Common.{◌≡◌, ℕ, List, [], ◌∷◌, ◌++◌, sym, ap, ◌∙◌, subst}
use mathlib.Core.Option.{some}
use lib.ListN.{get_elem?}
use Rattle.atomic_table.specs.Table.{State}
use Rattle.pointer_word.specs.Hands.{Hand, Note}
use Rattle.pointer_word.specs.Machine.{State as Machine, opening}
use Rattle.pointer_word.specs.Calls.{Call, May, Runs, act}
use Rattle.pointer_word.proofs.History.{history_is}
use Rattle.pointer_word.proofs.Pasts.{moves_are, uses_are}
use Rattle.std.proofs.lemmas.List.{append-nil}
use Rattle.object_lock.specs.Carrying.{RuleOf}
use Rattle.object_lock.specs.Logs.{Seated, unlogged}
use Rattle.object_lock.specs.Rule.{IsLed, Rule}
use Rattle.atomic_table.proofs.Lists.{at_map}
use Rattle.object_lock.specs.OneList.{OneList}
use Rattle.object_lock.specs.Plays.{IsPart, IsReached}
use Rattle.object_lock.specs.Seats.{Sizes, View}

pub run_on : (h : Type 0) (n : ℕ) (cs : List Call) (s t : Machine) (c : Call) → Runs h n s cs t → May h n t c → Runs h n s (cs ++ c ∷ []) (act t c)
run_on h n [] s t c r may = (subst (λ (q : Machine). May h n q c) r may, ap (λ (q : Machine). act q c) r)
run_on h n (d ∷ cs) s t c r may = (r.0, run_on h n cs (act s d) t c r.1 may)

-- one call more
abbrev pub led_on : (h : Type 0) (n : ℕ) (x t : Machine) (c : Call) → IsLed h n x → May h n x c → act x c ≡ t → IsLed h n t
led_on h n x t c l may acts = (l.0 ++ c ∷ [], subst (Runs h n opening (l.0 ++ c ∷ [])) acts (run_on h n l.0 opening x c l.1 may))

-- no call more
pub none_made : {S : Type 0} {owner : ℕ → ℕ} (kept : S → ℕ → List ℕ → Type 0) (there : S → Type 0) (honest : Type 0) (z : Sizes) (s : State S View) (x : Machine) (cs : List Call) → RuleOf kept there honest z s x cs owner → RuleOf kept there honest z s x (cs ++ []) owner
none_made kept there honest z s x cs q = (q.0, q.1, q.2 ∙ sym (append-nil cs), q.3)

-- what a seat did is its part of the list
part_of : {S : Type 0} (kept : S → ℕ → List ℕ → Type 0) (there : S → Type 0) (honest : Type 0) (z : Sizes) (s : State S View) (r : Rule kept there honest z s) (id : ℕ) (v : View) → get_elem? s.views id ≡ some v → IsPart v r.led.0
part_of kept there honest z s r id v at =
    let seat = r.seats id v at in let x = r.machine in record {
      stores = λ o own. ap (λ (y : Note). y.history) (seat.shows.1 o own) ∙ history_is honest z.cells r.led.0 x r.led.1 o;
      uses = λ o own. ap (λ (y : Note). y.past) (seat.shows.1 o own) ∙ uses_are honest z.cells r.led.0 x r.led.1 o;
      moves = ap (λ (y : Hand). y.past) seat.shows.0 ∙ moves_are honest z.cells r.led.0 x r.led.1 v.number;
    }

-- what the rule says of the list to a seat
pub reached : {S : Type 0} (kept : S → ℕ → List ℕ → Type 0) (there : S → Type 0) (honest : Type 0) (z : Sizes) (s : State S View) (r : Rule kept there honest z s) (id : ℕ) (v : View) → get_elem? s.views id ≡ some v → IsReached honest v r.machine
reached kept there honest z s r id v at = record {
  calls = r.led.0;
  led = subst (λ (q : Sizes). Runs honest q.cells opening r.led.0 r.machine) (sym (r.seats id v at).sized) r.led.1;
  part = part_of kept there honest z s r id v at;
}

-- what it says to all of them, with their logs
pub all_parts : {S : Type 0} (kept : S → ℕ → List ℕ → Type 0) (there : S → Type 0) (honest : Type 0) → OneList kept there honest
all_parts {S} kept there honest z s r =
    let l = r.logged in let q = r.rule in record {
      machine = q.machine;
      steps = l.steps;
      led = subst (λ (cs : List Call). Runs honest z.cells opening cs q.machine) (sym l.made) q.led.1;
      follows = l.follows;
      own = l.own;
      owner = q.owner;
      owned = λ id v at. (q.seats id v.view (at_map (λ (u : Seated). u.view) s.views id v at)).owned;
      owners = r.owners;
      logs = l.logs;
      none = l.none;
      parts = λ id v at. subst (IsPart v.view) (sym l.made) (part_of kept there honest z (unlogged s) q id v.view (at_map (λ (u : Seated). u.view) s.views id v at));
      words = λ o near. (q.objects o near).word;
    }
