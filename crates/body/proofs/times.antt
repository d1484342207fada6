pub mod TimesLaws
