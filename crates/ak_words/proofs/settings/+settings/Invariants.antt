use Rattle.std.proofs.Common.{length}
use Rattle.ak_words.proofs.settings.+settings.Given as goal

abbrev pub decreases-settings : goal.decreases-settings
decreases-settings l = length l.words.now
