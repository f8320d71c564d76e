-- In each arm the list was put in the key's place.
use Rattle.isort_settings.specs.Modules.{modules_of}
use Rattle.isort_settings.specs.declared.key.SettingKey.TheVariants as key
use Rattle.isort_settings.proofs.Readings.{list_err, list_ok, took_shown, kept}
use Rattle.isort_settings.proofs.settings.Settings.take_modules.Goals as goal

pub returns-in-ExtraStandardLibrary : goal.returns-in-ExtraStandardLibrary
returns-in-ExtraStandardLibrary c = took_shown _ key.ExtraStandardLibrary _ _ modules_of _ _ _ _ c.in-ExtraStandardLibrary.is (list_ok _ _ _ c.in_ok-list.ensures) (list_err _ _ _ c.in_ok-list.ensures) c.put.ensures

pub returns-in-KnownFirstParty : goal.returns-in-KnownFirstParty
returns-in-KnownFirstParty c = took_shown _ key.KnownFirstParty _ _ modules_of _ _ _ _ c.in-KnownFirstParty.is (list_ok _ _ _ c.in_ok-list.ensures) (list_err _ _ _ c.in_ok-list.ensures) c.put-in-KnownFirstParty.ensures

pub returns-in-KnownFutureLibrary : goal.returns-in-KnownFutureLibrary
returns-in-KnownFutureLibrary c = took_shown _ key.KnownFutureLibrary _ _ modules_of _ _ _ _ c.in-KnownFutureLibrary.is (list_ok _ _ _ c.in_ok-list.ensures) (list_err _ _ _ c.in_ok-list.ensures) c.put-in-KnownFutureLibrary.ensures

pub returns-in-KnownLocalFolder : goal.returns-in-KnownLocalFolder
returns-in-KnownLocalFolder c = took_shown _ key.KnownLocalFolder _ _ modules_of _ _ _ _ c.in-KnownLocalFolder.is (list_ok _ _ _ c.in_ok-list.ensures) (list_err _ _ _ c.in_ok-list.ensures) c.put-in-KnownLocalFolder.ensures

pub returns-in-KnownStandardLibrary : goal.returns-in-KnownStandardLibrary
returns-in-KnownStandardLibrary c = took_shown _ key.KnownStandardLibrary _ _ modules_of _ _ _ _ c.in-KnownStandardLibrary.is (list_ok _ _ _ c.in_ok-list.ensures) (list_err _ _ _ c.in_ok-list.ensures) c.put-in-KnownStandardLibrary.ensures

pub returns-in-KnownThirdParty : goal.returns-in-KnownThirdParty
returns-in-KnownThirdParty c = took_shown _ key.KnownThirdParty _ _ modules_of _ _ _ _ c.in-KnownThirdParty.is (list_ok _ _ _ c.in_ok-list.ensures) (list_err _ _ _ c.in_ok-list.ensures) c.put-in-KnownThirdParty.ensures

pub invariant_of-self : goal.invariant_of-self
invariant_of-self c = kept c.args.self.now

pub invariant_of-self-in-KnownFirstParty : goal.invariant_of-self-in-KnownFirstParty
invariant_of-self-in-KnownFirstParty c = kept c.args.self.now

pub invariant_of-self-in-KnownFutureLibrary : goal.invariant_of-self-in-KnownFutureLibrary
invariant_of-self-in-KnownFutureLibrary c = kept c.args.self.now

pub invariant_of-self-in-KnownLocalFolder : goal.invariant_of-self-in-KnownLocalFolder
invariant_of-self-in-KnownLocalFolder c = kept c.args.self.now

pub invariant_of-self-in-KnownStandardLibrary : goal.invariant_of-self-in-KnownStandardLibrary
invariant_of-self-in-KnownStandardLibrary c = kept c.args.self.now

pub invariant_of-self-in-KnownThirdParty : goal.invariant_of-self-in-KnownThirdParty
invariant_of-self-in-KnownThirdParty c = kept c.args.self.now
