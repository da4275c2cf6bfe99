mod Answered
mod ShellExcluded
mod Joined
mod FaultLies
mod Processes
mod TriedSources
mod Passing
