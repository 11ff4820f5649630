-- What a command writes, and its exit status.
use Rattle.std.specs.Prelude.{◌≡◌, ◌⊎◌, ℕ, Bool, true, false, List, codes, ◌++◌}
use Rattle.c0_typed.specs.Meaning.{mean}
use Rattle.c0_typed.specs.Trees as y
use Rattle.c0_front.specs.Texts.{IsTypedAs}
use Rattle.code_form.specs.Form.{Image}
use Rattle.clap.specs.Words.{Text}
use Rattle.image_bytes.specs.Bytes.{image_bytes}
use Rattle.image_listing.specs.Listing.{listing}
use Rattle.memory_limit.specs.declared.limit.MemoryUse.{MemoryUse}
use Rattle.c0far.specs.FileCode.{HoldsCode, names_image, unchecked}
use Rattle.command_files.specs.FileTexts.{HasText, Known}
use Rattle.c0far.specs.Lives.{RunsLive}
use Rattle.c0far.specs.NoCode.{HasNoCode, IsUnread, LacksMemory}
use Rattle.command_messages.specs.Refusals.{HasFailed}
use Rattle.c0far.specs.Replays.{Replays}
use Rattle.c0far.specs.Runs.{Runs}
use Rattle.c0far.specs.Places.{since, until}
use Rattle.command_messages.specs.Shown.{TellsCall, TellsWhere, newline, shown_meaning}
use Rattle.command_messages.specs.Wants.{passed_line}
use Rattle.command_line.specs.Help.{asks_version, behind, help_text, version_text}
use Rattle.command_line.specs.Shell.{Bounded, Check, Command, Compiling, Live, Mean, Names, Replay, Run}
use Rattle.command_line.specs.Shell as shell
use Rattle.command_messages.specs.Statuses.{ended_status}
use Rattle.streams.specs.Streams.{Held, IsQuiet, Says, Writes}

-- the program of the file's text keeps the static rules of this level
pub record HasPassed (loops : Bool) (held : Known) (out err : Writes) (result : ℕ) : Type 0 where
  pub text : List ℕ
  pub read : HasText held text
  pub typed : y.Program
  pub accepted : IsTypedAs loops text typed
  pub shown : Says out (codes "ok" ++ newline) 0 result
  pub quiet : IsQuiet err

-- the command `check` of this file, which holds this text
abbrev pub ChecksText : (loops : Bool) → Text → Known → Writes → Writes → ℕ → Type 0
ChecksText loops file held out err result = HasPassed loops held out err result ⊎ (HasFailed loops file held out err result ⊎ (IsUnread file held out err result ⊎ LacksMemory out err result))

-- the file's image may be run
pub record IsFit (loops : Bool) (file : Text) (held : Known) (out err : Writes) (result : ℕ) : Type 0 where
  pub image : Image
  pub code : HoldsCode file (unchecked loops 64) held image
  pub shown : Says out (codes "ok" ++ newline) 0 result
  pub quiet : IsQuiet err

-- the command `check` of this file, which holds this image
abbrev pub ChecksImage : (loops : Bool) → Text → Known → Writes → Writes → ℕ → Type 0
ChecksImage loops file held out err result = IsFit loops file held out err result ⊎ HasNoCode loops file held out err result

-- the command `check` of this file, which holds this
abbrev pub Checks : (loops : Bool) → Text → Known → Writes → Writes → ℕ → Type 0
Checks loops file held out err result = elim (names_image file) as (λ b. Type 0) [ true ↦ ChecksImage loops file held out err result | false ↦ ChecksText loops file held out err result ]

-- the lines of the file's code are shown, of a text with no contracts
pub record HasListed (loops : Bool) (piece : ℕ) (file : Text) (held : Known) (out err : Writes) (result : ℕ) : Type 0 where
  pub image : Image
  pub code : HoldsCode file (unchecked loops piece) held image
  pub shown : Says out (listing image) 0 result
  pub quiet : IsQuiet err

-- the command `list` of this file, which holds this
abbrev pub Lists : (loops : Bool) → (piece : ℕ) → Text → Known → Writes → Writes → ℕ → Type 0
Lists loops piece file held out err result = HasListed loops piece file held out err result ⊎ HasNoCode loops file held out err result

-- the bytes of the file's code, of a text that is compiled so, are those of another file, which holds this now
pub record HasBuilt (file : Text) (compiling : Compiling) (held now : Known) (out err : Writes) (result : ℕ) : Type 0 where
  pub image : Image
  pub code : HoldsCode file compiling held image
  pub written : HasText now (image_bytes image)
  pub status : result ≡ 0
  pub silent : IsQuiet out
  pub quiet : IsQuiet err

-- the file has code, and the other file was not written
pub record IsUnwritten (file : Text) (compiling : Compiling) (target : Text) (held : Known) (out err : Writes) (result : ℕ) : Type 0 where
  pub image : Image
  pub code : HoldsCode file compiling held image
  pub shown : Says err (target ++ (codes ": cannot be written" ++ newline)) 2 result
  pub quiet : IsQuiet out

-- nothing is built: the file that was to be written holds what it held
abbrev pub HasNotBuilt : Text → Compiling → Text → (held before now : Known) → Writes → Writes → ℕ → Type 0
HasNotBuilt file compiling target held before now out err result = (now ≡ before) × (HasNoCode compiling.texts.loops file held out err result ⊎ IsUnwritten file compiling target held out err result)

-- the command `build` of this file, which holds this, into a file which held this and holds that now
abbrev pub Builds : Text → Compiling → Text → (held before now : Known) → Writes → Writes → ℕ → Type 0
Builds file compiling target held before now out err result = HasBuilt file compiling held now out err result ⊎ HasNotBuilt file compiling target held before now out err result

-- the program of the file's text, taken so, means this within its turns: what it printed and its end are shown, and where it stopped, if that was asked for
pub record HasMeant (asked : Bounded) (file : Text) (held : Known) (out err : Writes) (result : ℕ) : Type 0 where
  pub text : List ℕ
  pub read : HasText held text
  pub typed : y.Program
  pub accepted : IsTypedAs asked.texts.loops text typed
  pub status : ℕ
  pub shown : Says out (shown_meaning (mean typed asked.texts.checks asked.turns)) (ended_status (mean typed asked.texts.checks asked.turns).stop) status
  pub told : TellsWhere asked.explains file text (mean typed asked.texts.checks asked.turns).stop err status result

-- there is a limit, and the file's text is that of a well-typed program, whose plain run passed it: it is told what did, and which function was called last, if that was asked for; and
-- nothing of what it printed
pub record IsOverLimit (asked : Bounded) (file : Text) (held : Known) (out err : Writes) (result : ℕ) : Type 0 where
  pub limited : asked.limit ≡ 0 → ⊥
  pub text : List ℕ
  pub read : HasText held text
  pub typed : y.Program
  pub accepted : IsTypedAs asked.texts.loops text typed
  pub taker : MemoryUse
  pub middle : Held
  pub status : ℕ
  pub shown : Says (until middle err) ((codes "out of memory" ++ newline) ++ passed_line 0 taker asked.limit) 3 status
  pub call : TellsCall asked.explains file text (since middle err) status result
  pub quiet : IsQuiet out

-- the command `mean` of this file, which holds this
abbrev pub Means : Bounded → Text → Known → Writes → Writes → ℕ → Type 0
Means asked file held out err result =
    HasMeant asked file held out err result ⊎ (HasFailed asked.texts.loops file held out err result ⊎ (IsUnread file held out err result ⊎ (LacksMemory out err result ⊎ IsOverLimit asked file held out err result)))

-- all files but the one that is written hold what they held, and that of the text does
pub record WritesOnly (file target : Text) (held now : Text → Known) : Type 0 where
  pub others : (name : Text) → (name ≡ target → ⊥) → now name ≡ held name
  pub text : now file ≡ held file

-- all files do
abbrev pub KeepsFiles : (held now : Text → Known) → Type 0
KeepsFiles held now = (name : Text) → now name ≡ held name

-- the command, where files held this and hold that now, and folders are honest or not: `build` alone may write a file, the one that it names, and never the text that it is given
abbrev pub Does : Type 0 → (held now : Text → Known) → Command → Writes → Writes → ℕ → Type 0
Does honest held now (shell.Build compiling target file) out err result = Builds file compiling target (held file) (held target) (now target) out err result × WritesOnly file target held now
Does honest held now (Check loops file) out err result = Checks loops file (held file) out err result × KeepsFiles held now
Does honest held now (shell.Lists loops piece file) out err result = Lists loops piece file (held file) out err result × KeepsFiles held now
Does honest held now (Mean asked file) out err result = Means asked file (held file) out err result × KeepsFiles held now
Does honest held now (Replay asked files) out err result = Replays honest asked files held out err result × KeepsFiles held now
Does honest held now (Run asked files) out err result = Runs honest asked files held out err result × KeepsFiles held now
Does honest held now (Live asked file) out err result = RunsLive honest asked file held out err result × KeepsFiles held now

-- the number of this version is told where the words ask for it; of others it is told what is refused, and a page of help is shown
abbrev pub Answers : List Text → Writes → Writes → ℕ → Type 0
Answers words out err result =
    elim (asks_version (behind words)) as (λ b. Type 0) [ true ↦ Says out version_text 0 result × IsQuiet err | false ↦ Says err (help_text words) 2 result × IsQuiet out ]

-- the words are no command, and are answered
pub record IsUsage (words : List Text) (out err : Writes) (result : ℕ) : Type 0 where
  pub none : (command : Command) → Names words command → ⊥
  pub answered : Answers words out err result

-- what the words ask for was done, where files held this and hold that now, and folders are honest or not
abbrev pub IsDriven : Type 0 → (held now : Text → Known) → List Text → Writes → Writes → ℕ → Type 0
IsDriven honest held now words out err result =
    ((command : Command) × Names words command × Does honest held now command out err result) ⊎ (KeepsFiles held now × (IsUsage words out err result ⊎ LacksMemory out err result))
