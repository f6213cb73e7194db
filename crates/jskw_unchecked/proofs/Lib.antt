mod Counts
mod Coverage
mod Items
