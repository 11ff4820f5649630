-- Replays over a store of which less is known.
use Rattle.std.proofs.Common.{◌≡◌, ℕ, List, [], ◌∷◌, Some, inl, inr, subst}
use Rattle.cells.specs.declared.ending.Ended.{Ended}
use Rattle.code_form.specs.Form.{Image}
use Rattle.command_line.specs.Shell.{Replayed}
use Rattle.schedule_replay.specs.Replayed.{IsReplayed, Leads, NoneIsRefused, StopsAt}
use Rattle.world_semantics.specs.Worlds.{Event, Follows, Sizes, World, start}
use Rattle.command_files.specs.FileTexts.{Known}
use Rattle.c0far.specs.Replays.{Replays, ReplaysOver}
use Rattle.c0far.specs.Runs.{IsHonestIn}
use Rattle.streams.specs.Streams.{Writes}

-- in what follows the store is honest in fewer cases, and reliable in fewer
module _ (h i r s : Type 0) (honest : i → h) (reliable : s → r) where
  follows_less : (z : Sizes) (images : ℕ → Image) (w v : World) (events : List Event) → Follows h z images w events v → Follows i z images w events v
  follows_less z images w v [] led = led
  follows_less z images w v (e ∷ es) led = (led.0, led.1, λ so. led.2 (honest so), follows_less z images led.0 v es led.3)

  none_less : (z : Sizes) (images : ℕ → Image) (w : World) (events : List Event) → NoneIsRefused r z images w events → NoneIsRefused s z images w events
  none_less z images w [] none = tt
  none_less z images w (e ∷ es) none = (λ so. none.0 (reliable so), λ u is. none_less z images u es (none.1 u is))

  leads_less : (z : Sizes) (images : ℕ → Image) (text : List ℕ) (events : List Event) (v : World) → Leads h r z images text events v → Leads i s z images text events v
  leads_less z images text events v led = record {
    lines = led.lines;
    follows = follows_less z images (start images) v events led.follows;
    none_refused = none_less z images (start images) events led.none_refused;
  }

  pub replayed_less : (z : Sizes) (images : ℕ → Image) (schedule : List ℕ) (ends : List Ended) → IsReplayed h r z images schedule ends → IsReplayed i s z images schedule ends
  replayed_less z images schedule ends told = record {
    events = told.events;
    world = told.world;
    leads = leads_less z images schedule told.events told.world told.leads;
    all = told.all;
    ended = told.ended;
  }

  stops_less : (z : Sizes) (images : ℕ → Image) (schedule : List ℕ) (line : ℕ) → StopsAt h r z images schedule line → StopsAt i s z images schedule line
  stops_less z images schedule line told = record {
    text = told.text;
    rest = told.rest;
    cut = told.cut;
    events = told.events;
    world = told.world;
    leads = leads_less z images told.text told.events told.world told.leads;
    count = told.count;
    more = told.more;
    stuck = told.stuck;
  }

  pub replays_less : (asked : Replayed) (files : List (List ℕ)) (held : List ℕ → Known) (out err : Writes) (result : ℕ) → ReplaysOver h r asked files held out err result → ReplaysOver i s asked files held out err result
  replays_less asked files held out err result (inl (inl did)) = inl (inl (record {
    programs = did.programs;
    admits = record { codes = did.admits.codes; admitted = did.admits.admitted; work = did.admits.work };
    lines = did.lines;
    read = did.read;
    ends = did.ends;
    replayed = replayed_less _ _ did.lines did.ends did.replayed;
    shown = did.shown;
    quiet = did.quiet;
  }))
  replays_less asked files held out err result (inl (inr (inl did))) = inl (inr (inl (record {
    programs = did.programs;
    admits = record { codes = did.admits.codes; admitted = did.admits.admitted; work = did.admits.work };
    lines = did.lines;
    read = did.read;
    line = did.line;
    stops = stops_less _ _ did.lines did.line did.stops;
    shown = did.shown;
    quiet = did.quiet;
  })))
  replays_less asked files held out err result (inl (inr (inr lacks))) = inl (inr (inr lacks))
  replays_less asked files held out err result (inr (inl lacks)) = inr (inl (record {
    programs = lacks.programs;
    codes = lacks.codes;
    fault = lacks.fault;
    cause = lacks.cause;
    shown = lacks.shown;
    quiet = lacks.quiet;
  }))
  replays_less asked files held out err result (inr (inr unread)) = inr (inr unread)

-- a replay over a store in memory
pub replays_in_memory : (honest : Type 0) (asked : Replayed) (files : List (List ℕ)) (held : List ℕ → Known) (out err : Writes) (result : ℕ)
    → ReplaysOver (Unit {0}) (Unit {0} × (asked.memory.fail_from ≡ 0)) asked files held out err result → Replays honest asked files held out err result
replays_in_memory honest asked files held out err result did =
    inl (replays_less _ _ _ _ (λ so. tt) (λ never. (tt, never.1)) asked files held out err result did)

-- a replay over a store in a folder
pub replays_in_folder : (honest : Type 0) (asked : Replayed) (folder : List ℕ) (files : List (List ℕ)) (held : List ℕ → Known) (out err : Writes) (result : ℕ) → asked.memory.store ≡ Some folder
    → ReplaysOver honest (⊥ × (asked.memory.fail_from ≡ 0)) asked files held out err result → Replays honest asked files held out err result
replays_in_folder honest asked folder files held out err result is did =
    inl (replays_less _ _ _ _ (λ so. subst (IsHonestIn honest) is so) (λ never. absurd (let no : ⊥ = cc (never.0, is) in no)) asked files held out err result did)
