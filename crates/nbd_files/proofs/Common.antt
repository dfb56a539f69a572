-- The names that the proofs of this crate cite from elsewhere, passed on from one place. Declares nothing.
pub use Rattle.nbd_files.specs.{Opening.{AsksFor, IsOpeningCause, IsOpeningFault, Path, start_path}, RunFaults.words, Starts.IsWithinLimit, Texts.IsText}
pub use Rattle.nbd_files.specs.declared.{command_line.StartWord.{StartWord, TheVariants.{Contents, Image}}, fault.RunFault.{RunFault, TheVariants.{AgainstRead, CaptureLine, CaptureRead, ContentsLine, ContentsRead, ImageRead, Memory, OrderLine, OrderRead, ScriptLine, ScriptRead, Write}}, input.{Text.{Text, TheVariants.{Longer, Whole}}, TheConstants.{PORTION, READ_LIMIT}}}
pub use Rattle.nbd_files.specs.internal.{line_of, name_of}
pub use Rattle.std.proofs.{Common.{IfSome, List, None, Ok, Some, [], ap, append-nil, append_assoc, arith, codes, length, length-append, refl, rules, subst, sym, take, vec_capacity, vec_items, ℕ, ◌++◌, ◌+◌, ◌-◌, ◌<◌, ◌^◌, ◌∙◌, ◌∷◌, ◌≡◌, ◌≤◌}, KnownBytes.{Consumes-nil, Consumes-trans}, Math.Seq.take-append_seam, lemmas.Result.err_from_is_err_and}
pub use Rattle.std.specs.{Fmt.decimal, Io.KnownBytes.{Consumes, IsAtEnd}, Prelude.Option, declared.{alloc.Global.Global, vec.Vec.Vec}}
pub use borrow.Author.Tests.{tests}
