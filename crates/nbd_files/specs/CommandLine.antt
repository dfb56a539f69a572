-- What the words of a command line name, and the exit statuses of an answer and of words that cannot be had.
use Rattle.std.specs.Prelude.{◌≡◌, ◌++◌, ℕ, List, Bool, true, false, Option, Some, None, Result, Ok, Err, codes}
use Rattle.std.specs.declared.io.ErrorKind.{ErrorKind, TheVariants.OutOfMemory}
use Rattle.nbd_files.specs.{declared.{fault.RunFault.RunFault, command_line.StartWord.{StartWord, TheVariants.{Unknown, Zero, Image, Contents}}}, RunFaults.status}

-- the word behind `--start` names this start: bytes that are not known, zeroes, those of the file behind `image:`, or
-- what the text in the file behind `contents:` says
abbrev pub Names : List ℕ → StartWord → Type 0
Names word Unknown = word ≡ codes "unknown"
Names word Zero = word ≡ codes "zero"
Names word (Image path) = word ≡ codes "image:" ++ path.now
Names word (Contents path) = word ≡ codes "contents:" ++ path.now

-- what the word names, or nothing where it names no start
abbrev pub IsNamed : List ℕ → Option StartWord → Type 0
IsNamed word (Some start) = Names word start
IsNamed word None = (start : StartWord) → Names word start → ⊥

-- the exit status: 0 of a yes, 1 of a no, and that of a fault
abbrev pub exit_status : Result Bool RunFault → ℕ
exit_status (Ok true) = 0
exit_status (Ok false) = 1
exit_status (Err fault) = status fault

-- the exit status where the words of the command line could not be had: 4 of out of memory, 2 of a word that is not
-- UTF-8
abbrev pub words_status : ErrorKind → ℕ
words_status OutOfMemory = 4
words_status kind = 2
