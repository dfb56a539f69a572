use Rattle.nbd_judge.proofs.verdicts.AnswerLemmas.{answers_runs}
use Rattle.nbd_judge.proofs.laws.verdicts_answer_runs.Goals as goal

pub returns : goal.returns
returns c = answers_runs c.explained_exactly.ensures.passing c.explained_exactly.ensures.only c.latest_moments.ensures.only c.same_reports.ensures
