-- Explicit runs of negotiation: each is checked by computing.
use Rattle.nbd_laws.proofs.{Common.{◌+◌, [], ◌∷◌, ◌++◌, refl, true, false, big_bytes, whole, Greeting, ClientFlags, Choice, Answer, Exported, Serves}, worked.{SessionLemmas.{gives, gone, greeted, read, sends}, AnswerLemmas.{computing, yes}}}
use Rattle.nbd_wire.specs.declared.answers.TheConstants as answers
use Rattle.nbd_wire.specs.declared.options.TheConstants as options
use Rattle.nbd_laws.proofs.examples.options.Goals as goal

pub returns-clause-padded_export : goal.returns-clause-padded_export
unfolding computing
returns-clause-padded_export c = yes (sends (Greeting 3 ∷ ClientFlags 1 ∷ Choice options.EXPORT_NAME (100 ∷ 105 ∷ 115 ∷ 107 ∷ []) ∷ Exported 8 109 true ∷ read 1 0 1 ∷ []) ++ Serves (whole 1) ∷ sends (gives 1 (0 ∷ []) ∷ [])) refl refl refl refl refl refl tt refl refl refl refl

pub returns-clause-bare_export : goal.returns-clause-bare_export
unfolding computing
returns-clause-bare_export c = yes (sends (Greeting 3 ∷ ClientFlags 3 ∷ Choice options.EXPORT_NAME (100 ∷ 105 ∷ 115 ∷ 107 ∷ []) ∷ Exported 8 109 false ∷ read 1 0 1 ∷ []) ++ Serves (whole 1) ∷ sends (gives 1 (0 ∷ []) ∷ [])) refl refl refl refl refl refl tt refl refl refl refl

pub returns-clause-refused_tls : goal.returns-clause-refused_tls
unfolding computing
returns-clause-refused_tls c = yes (sends (greeted ++ Choice options.STARTTLS [] ∷ Answer options.STARTTLS (answers.ERROR + 1) [] ∷ [] ++ gone)) refl refl refl refl refl refl tt refl refl refl refl

pub returns-clause-abort_acknowledged : goal.returns-clause-abort_acknowledged
unfolding computing
returns-clause-abort_acknowledged c = yes (sends (greeted ++ Choice options.ABORT [] ∷ Answer options.ABORT answers.ACK [] ∷ [])) refl refl refl refl refl refl tt refl refl refl refl

pub returns-clause-export_list : goal.returns-clause-export_list
unfolding computing
returns-clause-export_list c = yes (sends (greeted ++ Choice options.LIST [] ∷ Answer options.LIST answers.SERVER (big_bytes 4 1 ++ 97 ∷ []) ∷ Answer options.LIST answers.ACK [] ∷ [])) refl refl refl refl refl refl tt refl refl refl refl

pub returns-clause-export_name_alone : goal.returns-clause-export_name_alone
unfolding computing
returns-clause-export_name_alone c = yes (sends (greeted ++ Choice options.EXPORT_NAME (100 ∷ 105 ∷ 115 ∷ 107 ∷ []) ∷ [])) refl refl refl refl refl refl tt refl refl refl refl

pub returns-clause-context_selected : goal.returns-clause-context_selected
unfolding computing
returns-clause-context_selected c = yes (sends (Greeting 3 ∷ ClientFlags 3 ∷ Choice options.STRUCTURED_REPLY [] ∷ Answer options.STRUCTURED_REPLY answers.ACK [] ∷ Choice options.SET_META_CONTEXT (big_bytes 27 0x00000000000000010000000f626173653a616c6c6f636174696f6e) ∷ Answer options.SET_META_CONTEXT answers.META_CONTEXT (big_bytes 19 0x00000001626173653a616c6c6f636174696f6e) ∷ Answer options.SET_META_CONTEXT answers.ACK [] ∷ Choice options.GO (big_bytes 6 0) ∷ Answer options.GO answers.INFO (big_bytes 12 0x00000000000000000008006d) ∷ Answer options.GO answers.ACK [] ∷ [])) refl refl refl refl refl refl tt refl refl refl refl
