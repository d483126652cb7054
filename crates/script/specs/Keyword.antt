-- The word that a line begins with
use Rattle.std.specs.Prelude.{ℕ, List, codes}
use Rattle.script.specs.declared.line.Keyword.{Keyword}
use Rattle.script.specs.declared.line.Keyword.TheVariants.{Area, Request, Accept, Complete, Clock}

abbrev pub word_of : Keyword → List ℕ
word_of Area = codes "area"
word_of Request = codes "request"
word_of Accept = codes "accept"
word_of Complete = codes "complete"
word_of Clock = codes "clock"
