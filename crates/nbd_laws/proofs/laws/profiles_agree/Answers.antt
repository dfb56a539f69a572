use Rattle.nbd_laws.proofs.runs.AgreeLemmas.{dues_agree, places_agree, runs_agree, under_way_agrees}
use Rattle.nbd_laws.proofs.laws.profiles_agree.Goals as goal

pub returns-clause-places : goal.returns-clause-places
returns-clause-places c = places_agree

pub returns-clause-under_way : goal.returns-clause-under_way
returns-clause-under_way c = under_way_agrees

pub returns-clause-runs : goal.returns-clause-runs
returns-clause-runs c = runs_agree

pub returns-clause-dues : goal.returns-clause-dues
returns-clause-dues c = dues_agree
