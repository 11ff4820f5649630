-- The sentences on words that are no command line.
use Rattle.std.specs.Prelude.{ℕ, List, [], ◌∷◌, ◌++◌, codes}
use Rattle.clap.specs.Words.{Text}
use Rattle.command_line.specs.Options.{name_text, wanted_text}
use Rattle.command_line.specs.declared.options.Choice.{Choice}
use Rattle.command_line.specs.declared.complaint.Complaint.{Complaint}
use Rattle.command_line.specs.declared.complaint.Complaint.TheVariants as c

-- the end of a line
abbrev pub newline : List ℕ
newline = 10 ∷ []

-- there is no help on this word
abbrev pub no_help : Text → Text
no_help word = codes "c0far: there is no help on " ++ (word ++ (codes "; there is on a command, a fault's number or name, `faults`, `images` and `stops`" ++ newline))

-- no word stands behind the program's name
abbrev pub no_command : Text
no_command = codes "c0far: a command is wanted" ++ newline

-- no command has this name
abbrev pub no_such_command : Text → Text
no_such_command word = codes "c0far: there is no command " ++ (word ++ newline)

-- the command has no such option
abbrev pub no_option : Text → Text
no_option word = codes "c0far: there is no option " ++ (word ++ newline)

-- the option is given twice
abbrev pub twice : Choice → Text
twice choice = codes "c0far: " ++ (name_text choice ++ (codes " is given twice" ++ newline))

-- the option has no value
abbrev pub no_value : Choice → Text
no_value choice = codes "c0far: " ++ (name_text choice ++ (codes " wants " ++ (wanted_text choice ++ newline)))

-- the option has this value, and wants another
abbrev pub other_value : Choice → Text → Text
other_value choice word = codes "c0far: " ++ (name_text choice ++ (codes " wants " ++ (wanted_text choice ++ (codes ", not " ++ (word ++ newline)))))

-- the command of this name takes one file, and this word is one more
abbrev pub one_more : Text → Text → Text
one_more name word = codes "c0far: " ++ (name ++ (codes " takes one FILE, and " ++ (word ++ (codes " is one more" ++ newline))))

-- the command of this name wants this option
abbrev pub lacks : Text → Choice → Text
lacks name choice = codes "c0far: " ++ (name ++ (codes " wants " ++ (name_text choice ++ (codes " with " ++ (wanted_text choice ++ newline)))))

-- the command of this name wants a file
abbrev pub no_file : Text → Text
no_file name = codes "c0far: " ++ (name ++ (codes " wants a FILE" ++ newline))

-- the command of this name wants other words
abbrev pub other_words : Text → Text
other_words name = codes "c0far: other words are wanted behind " ++ (name ++ newline)

-- the run whose output is written as it comes takes one file
abbrev pub one_live : Text
one_live = codes "c0far: --live takes one FILE" ++ newline

-- a complaint as code has it
abbrev pub complaint_text : Complaint → Text
complaint_text c.Help = []
complaint_text (c.NoHelp word) = no_help word.now
complaint_text c.NoCommand = no_command
complaint_text (c.NoSuchCommand word) = no_such_command word.now
complaint_text (c.NoSuchOption word) = no_option word.now
complaint_text (c.Twice choice) = twice choice
complaint_text (c.NoValue choice) = no_value choice
complaint_text (c.OtherValue choice word) = other_value choice word.now
complaint_text (c.OneMore name word) = one_more name.now word.now
complaint_text (c.Lacks name choice) = lacks name.now choice
complaint_text (c.NoFile name) = no_file name.now
complaint_text (c.OtherWords name) = other_words name.now
complaint_text c.OneLive = one_live
