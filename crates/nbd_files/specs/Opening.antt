-- Which files were opened, and in which order, where an opener and its inputs tell it.
use Rattle.std.specs.Prelude.{◌≡◌, ◌++◌, ◌∷◌, [], ℕ, List, Option, Some, None, ⊤, IfSome}
use Rattle.nbd_files.specs.declared.{command_line.StartWord.{StartWord, TheVariants.{Unknown, Zero, Image, Contents}}, start.StartFrom.StartFrom, fault.RunFault.{RunFault, TheVariants.{CaptureRead, OrderRead, ImageRead, ContentsRead}}}
use Rattle.nbd_files.specs.declared.start.StartFrom.TheVariants as starts

-- a path, as its bytes
abbrev pub Path : Type 0
Path = List ℕ

-- known paths are followed by these
abbrev pub AsksFor : Option (List Path) → Option (List Path) → List Path → Type 0
AsksFor None new paths = ⊤
AsksFor (Some old) None paths = ⊥
AsksFor (Some old) (Some new) paths = new ≡ old ++ paths

-- the path of the image or of the contents text, where the start is one
abbrev pub start_path : StartWord → List Path
start_path (Image path) = path.now ∷ []
start_path (Contents path) = path.now ∷ []
start_path start = []

-- the fault names the kind of the file that the start is
abbrev pub IsOpeningFault : StartWord → RunFault → Type 0
IsOpeningFault (Image path) ImageRead = ⊤
IsOpeningFault (Contents path) ContentsRead = ⊤
IsOpeningFault start fault = ⊥

-- a fault names the kind of the file that was asked for last
abbrev pub IsOpeningCause : (old new : Option (List Path)) → Path → Path → StartWord → RunFault → Type 0
IsOpeningCause old new capture order start CaptureRead = AsksFor old new (capture ∷ [])
IsOpeningCause old new capture order start OrderRead = AsksFor old new (capture ∷ order ∷ [])
IsOpeningCause old new capture order start fault =
    IsOpeningFault start fault × AsksFor old new (capture ∷ order ∷ start_path start)

-- an input is that of the file with this path, where that is told
abbrev pub IsAt : {I : Type 0} → (I → Option Path) → I → Path → Type 0
IsAt path_of input path = IfSome (path_of input) (λ told. told ≡ path)

-- the start is what the word names, an image the file with its path
abbrev pub StartsAt : {I : Type 0} → (I → Option Path) → StartWord → StartFrom I → Type 0
StartsAt path_of Unknown starts.Unknown = ⊤
StartsAt path_of Zero starts.Zeroes = ⊤
StartsAt path_of (Image path) (starts.Image input) = IsAt path_of input path.now
StartsAt path_of (Contents path) (starts.Contents input) = IsAt path_of input path.now
StartsAt path_of word start = ⊥
