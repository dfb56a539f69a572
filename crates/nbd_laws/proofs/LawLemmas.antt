-- The lemmas that are the contracts of laws.
use Rattle.nbd_laws.proofs.{judge.SameLemmas.no_proper_prefix, requests.{ContextLemmas.contexts_stay, DisconnectLemmas.{disconnects_are_empty, nothing_after_disconnect}, OutstandingLemmas.{cookies_are_distinct, each_reply_answers_one, empty_is_explained, served_once_after_completion}, SoundnessLemmas.reports_are_sound}}
use Rattle.nbd_laws.proofs.runs.{AnnouncedLemmas.sizes_are_announced, CutLemmas.cuts_do_not_count, NegotiationLemmas.{answers_follow_choices, handshakes_are_fair}, PartLemmas.{completions_stand_after_bytes, prefixes_are_runs, starts_stand_before_bytes}, ProfileLemmas.ends_agree, RunByteLemmas.runs_hold_each_side}
use Rattle.nbd_laws.proofs.service.{MomentLemmas.{latest_moments, orders_are_faultless}, ServiceLemmas.{reports_ignore_service, same_marks, same_reports}}

pub ruleset laws = (answers_follow_choices, completions_stand_after_bytes, contexts_stay, cookies_are_distinct, cuts_do_not_count, disconnects_are_empty, each_reply_answers_one, empty_is_explained, ends_agree, handshakes_are_fair, latest_moments, no_proper_prefix, nothing_after_disconnect, orders_are_faultless, prefixes_are_runs, reports_are_sound, reports_ignore_service, runs_hold_each_side, same_marks, same_reports, served_once_after_completion, sizes_are_announced, starts_stand_before_bytes)
