mod FileLaws
mod NameLaws
mod LineLaws
mod Numbers
mod Advancing
