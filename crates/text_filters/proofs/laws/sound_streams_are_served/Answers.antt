use Rattle.text_filters.proofs.SoundStreams.{are-served}
use Rattle.text_filters.proofs.laws.sound_streams_are_served.Goals as goal

pub returns : goal.returns
returns g c = are-served (g.T.Filter.work c.args._filter.now)
