-- Where the machine with fields has come, what it holds is read: it is sound.
pub mod OpenLists
pub mod Holds
pub mod BodyMoves
pub mod Lists
pub mod CodeSteps
pub mod HostSteps
pub mod WholeTexts
pub mod OpenEnds
pub mod LiveTexts
