-- Document 01's table of answers for packets (docs/RULES.md, 'Answers'): the number of each verdict, and what it carries. Assumes nothing: these are definitions.
use Rattle.std.specs.Prelude.{ℕ, List, [], ◌∷◌}
use Rattle.verdicts.specs.declared.Verdict.{Verdict}
use Rattle.verdicts.specs.declared.Verdict.TheVariants.{Pass, Deliver, Protect, Wanted, ToIpsec, NotReadable, Discarded, CameInClear, NoSuchPair, DoesNotFit, IpsecFragment, IpsecTooShort, TriggerUnreadable, TriggerDoesNotFit}

abbrev pub verdict_number : Verdict → ℕ
verdict_number Pass = 0
verdict_number Deliver = 1
verdict_number (Protect n protocol spi) = 2
verdict_number (Wanted n) = 3
verdict_number (ToIpsec protocol spi) = 4
verdict_number NotReadable = 10
verdict_number Discarded = 11
verdict_number CameInClear = 12
verdict_number NoSuchPair = 13
verdict_number DoesNotFit = 14
verdict_number IpsecFragment = 15
verdict_number IpsecTooShort = 16
verdict_number TriggerUnreadable = 17
verdict_number TriggerDoesNotFit = 18

-- 'An answer carries zeros where nothing is listed.'
abbrev pub carried : Verdict → List ℕ
carried Pass = 0 ∷ 0 ∷ 0 ∷ []
carried Deliver = 0 ∷ 0 ∷ 0 ∷ []
carried (Protect n protocol spi) = n ∷ protocol ∷ spi ∷ []
carried (Wanted n) = n ∷ 0 ∷ 0 ∷ []
carried (ToIpsec protocol spi) = protocol ∷ spi ∷ 0 ∷ []
carried NotReadable = 0 ∷ 0 ∷ 0 ∷ []
carried Discarded = 0 ∷ 0 ∷ 0 ∷ []
carried CameInClear = 0 ∷ 0 ∷ 0 ∷ []
carried NoSuchPair = 0 ∷ 0 ∷ 0 ∷ []
carried DoesNotFit = 0 ∷ 0 ∷ 0 ∷ []
carried IpsecFragment = 0 ∷ 0 ∷ 0 ∷ []
carried IpsecTooShort = 0 ∷ 0 ∷ 0 ∷ []
carried TriggerUnreadable = 0 ∷ 0 ∷ 0 ∷ []
carried TriggerDoesNotFit = 0 ∷ 0 ∷ 0 ∷ []
